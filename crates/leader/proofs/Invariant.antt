-- What every state of Leader keeps, as the record that its ghost field is asked for in, and said of a meaning.
use Rattle.std.specs.Prelude.{ℕ, List}
use Rattle.back_end.specs.Meaning.{Meaning}
use Rattle.leader.specs.Rule.{State, who}
use Rattle.leader.specs.State.{Keeps}
use Rattle.leader.specs.Means.{leader_meaning}
use Rattle.leader.specs.declared.state.Leader.{Leader}

pub ghosts : {n t running rounds steady : ℕ} {entries : List ℕ} {s : State} → Keeps n t running rounds steady entries s
    → record { keeps : Keeps n t running rounds steady entries s }
ghosts k = record { keeps = k }

-- said of a meaning
abbrev pub Kept : Meaning → State → Type 0
Kept m s = Keeps m.n m.t m.running m.rounds m.steady m.entries s

pub keeps : (b : Leader) → Kept (leader_meaning b) (who b.consoles)
keeps b = b.keeps

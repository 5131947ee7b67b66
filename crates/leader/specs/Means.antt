-- What a Leader means as a back end, and what its calls leave beyond that: each console, exactly.
use Rattle.std.specs.Prelude.{ℕ, ◌+◌, List, map}
use Rattle.rounds.specs.Rounds.{completing}
use Rattle.back_end.specs.Meaning.{Meaning}
use Rattle.back_end.specs.Kept.{meaning_with}
use Rattle.leader.specs.Rule.{Opened, LeaderRound}
use Rattle.leader.specs.declared.state.Leader.{Leader}

abbrev pub leader_meaning : Leader → Meaning
leader_meaning b = meaning_with b.progress (map (λ x. x.verdict) b.consoles)

-- as a start leaves it
abbrev pub Opens : Leader → Type 0
Opens b = Opened b.progress.entries b.consoles

-- as a round leaves it
abbrev pub Steps : ℕ → List ℕ → Leader → Leader → Type 0
Steps falls rows before after =
    LeaderRound before.progress.n (before.progress.rounds + 1) (completing before.progress.running falls) rows before.consoles after.consoles

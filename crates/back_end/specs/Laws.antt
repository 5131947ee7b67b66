-- The laws that a back end keeps in every state, said of its meaning.
use Rattle.std.specs.Prelude.{◌≡◌, ℕ, ◌<◌, true, ◌≢◌}
use Rattle.console_sets.specs.Sets.{member}
use Rattle.rounds.specs.Items.{at}
use Rattle.back_end.specs.Meaning.{Meaning}

pub record Agrees (m : Meaning) : Type 0 where
  -- all verdicts but 0 are equal
  pub one_verdict : (c d : ℕ) → at m.verdicts c ≢ 0 → at m.verdicts d ≢ 0 → at m.verdicts c ≡ at m.verdicts d
  -- each is the entry of a console that ran at the start; of any other console the entry is 0
  pub an_entry : (c : ℕ) → at m.verdicts c ≢ 0 → (d : ℕ) × (d < m.n) × (at m.entries d ≡ at m.verdicts c)

-- each running console has a verdict
abbrev pub Decided : Meaning → Type 0
Decided m = (c : ℕ) → member m.running c ≡ true → at m.verdicts c ≢ 0

-- so it is while the steady count is above the bound
abbrev pub Settles : ℕ → Meaning → Type 0
Settles bound m = bound < m.steady → Decided m

-- What every state of Third keeps, over plain numbers and lists, from which the laws of a back end follow.
use Rattle.std.specs.Prelude.{◌≡◌, ℕ, ◌*◌, ◌<◌, ◌≤◌, true, ◌≢◌, List}
use Rattle.console_sets.specs.Sets.{member}
use Rattle.rounds.specs.Items.{at}
use Rattle.back_end.specs.Meaning.{Meaning}
use Rattle.back_end.specs.Votes.{backing}

-- an estimate is an entry
abbrev pub Entered : ℕ → List ℕ → List ℕ → Type 0
Entered n entries estimates = (c : ℕ) → at estimates c ≢ 0 → 0 < backing n entries (at estimates c)

-- an estimate is the number of a console, or 0
abbrev pub Listed : ℕ → List ℕ → Type 0
Listed n estimates = (c : ℕ) → at estimates c ≤ n

-- a running console has an estimate
abbrev pub Estimating : ℕ → List ℕ → Type 0
Estimating running estimates = (c : ℕ) → member running c ≡ true → 0 < at estimates c

-- more than 2n/3 of all consoles, fallen ones with what they kept, have a verdict as their estimate
abbrev pub Backed : ℕ → List ℕ → List ℕ → Type 0
Backed n estimates verdicts = (c : ℕ) → at verdicts c ≢ 0 → 2 * n < 3 * backing n estimates (at verdicts c)

-- after a steady round the running consoles have one estimate
abbrev pub Even : ℕ → ℕ → List ℕ → Type 0
Even steady running estimates =
    (c d : ℕ) → (0 < steady) × (member running c ≡ true) × (member running d ≡ true) → at estimates c ≡ at estimates d

-- after two, one after the other, they have verdicts
abbrev pub Settled : ℕ → ℕ → List ℕ → Type 0
Settled steady running verdicts = 1 < steady → (c : ℕ) → member running c ≡ true → at verdicts c ≢ 0

-- what every state keeps, by its meaning and its estimates
pub record Keeps (m : Meaning) (estimates : List ℕ) : Type 0 where
  pub served : 3 * m.t < m.n
  pub entered : Entered m.n m.entries estimates
  pub listed : Listed m.n estimates
  pub estimating : Estimating m.running estimates
  pub backed : Backed m.n estimates m.verdicts
  pub even : Even m.steady m.running estimates
  pub settled : Settled m.steady m.running m.verdicts

-- A new estimate is present exactly if the halt set, of the consoles 1 to n, counts at most t.
use Rattle.std.proofs.Common.{◌≡◌, ℕ, ◌^◌, ◌<◌, ◌≤◌, true, is_some, Some, Option, ap, arith}
use Rattle.std.proofs.lemmas.Bool.Decides.{nat_tests}
use Rattle.console_sets.specs.Sets.{member, count}
use Rattle.console_sets.proofs.Digits.{ones-count}
use Rattle.front.specs.declared.consoles.Console.{Console}
use Rattle.front.specs.Deciding.{new_estimate, present}

module _ (t : ℕ) (console : Console) where
  -- a new estimate that is there is present, and the estimate
  pub present_of : (a : ℕ) → new_estimate t console ≡ Some a → (present t console ≡ true) × (console.estimate ≡ a)
  present_of a e = (ap (λ (x : Option ℕ). is_some x) e, grind arith)

  module _ (n : ℕ) (within : console.halt < 2 ^ n) where
    pub few_halted : present t console ≡ true → count (member console.halt) n ≤ t
    few_halted e = grind (arith, nat_tests, ones-count n console.halt within)

    pub few_present : count (member console.halt) n ≤ t → present t console ≡ true
    few_present l = grind (arith, nat_tests, ones-count n console.halt within)

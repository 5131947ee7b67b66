use Rattle.std.proofs.Common.{◌≡◌, ◌≤◌, ℕ, Bool}
use Rattle.console_sets.specs.Sets.{count}
use Rattle.console_sets.specs.Calls.{Computes}
use Rattle.console_sets.proofs.searches.count_of.Given as goal

abbrev pub invariant-loop-c : goal.invariant-loop-c
invariant-loop-c g l =
    ((p : ℕ → Bool) → Computes l.n (goal.T-post g l.test) p → l.number ≡ count p l.c) × (l.number ≤ l.c)

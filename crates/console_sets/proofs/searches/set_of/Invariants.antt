use Rattle.std.proofs.Common.{◌≡◌, ℕ, Bool, min}
use Rattle.console_sets.specs.Sets.{set_of}
use Rattle.console_sets.specs.Calls.{Computes}
use Rattle.console_sets.specs.Bound.{max_consoles}
use Rattle.console_sets.proofs.searches.set_of.Given as goal

abbrev pub invariant-loop-c : goal.invariant-loop-c
invariant-loop-c g l =
    ((p : ℕ → Bool) → Computes (min l.n max_consoles) (goal.T-post g l.test) p → l.set ≡ set_of p l.c)

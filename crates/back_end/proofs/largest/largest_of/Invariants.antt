use Rattle.std.proofs.Common.{◌≡◌, ℕ}
use Rattle.console_sets.specs.Calls.{Computes}
use Rattle.back_end.specs.Largest.{largest}
use Rattle.back_end.proofs.largest.largest_of.Given as goal

abbrev pub invariant-loop-c : goal.invariant-loop-c
invariant-loop-c g l = (f : ℕ → ℕ) → Computes l.n (goal.M-post g l.measure) f → l.top ≡ largest f l.c

use Rattle.std.proofs.Common.{ℕ, ◌<◌, false}
use Rattle.console_sets.proofs.searches.lowest_of.Given as goal

abbrev pub invariant-loop-c : goal.invariant-loop-c
invariant-loop-c g l = (d : ℕ) → d < l.c → goal.T-post g l.test d false

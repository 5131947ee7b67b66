use Rattle.std.proofs.Common.{sym, arith}
use Rattle.back_end.proofs.Most.{largest_none, largest_step}
use Rattle.back_end.proofs.largest.largest_of.Goals as goal

pub loop-c-init : goal.loop-c-init
loop-c-init g c = λ f h. sym (largest_none f)

pub loop-c-preserved : goal.loop-c-preserved
loop-c-preserved g c = λ f h.
    omega (arith, largest_step f c.loop-c.c _ (h c.loop-c.c c.loop-c-test.true _ c.measure.ensures), c.loop-c.invariant f h)

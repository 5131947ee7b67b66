use Rattle.std.proofs.Common.{true, false, sym, arith}
use Rattle.console_sets.proofs.Counting.{count_none, count_step}
use Rattle.console_sets.proofs.searches.count_of.Goals as goal
use Rattle.console_sets.proofs.searches.count_of.Goals.{then-test, else-test}

pub loop-c-init : goal.loop-c-init
loop-c-init g c = (λ p h. sym (count_none p), omega arith)

pub loop-c-preserved : goal.loop-c-preserved
loop-c-preserved g c =
    let i = c.loop-c.c in
    elim c.if-test.branch [
      | then-test w ↦
          (λ p h. omega (arith, w.number-is, c.loop-c.invariant.0 p h, count_step p i true (h i c.loop-c-test.true _ w.if-test.ensures)), omega (arith, w.number-is))
      | else-test w ↦
          (λ p h. omega (arith, w.number-is, c.loop-c.invariant.0 p h, count_step p i false (h i c.loop-c-test.true _ w.if-test.ensures)), omega (arith, w.number-is))
    ]

use Rattle.std.proofs.Common.{ℕ, ◌<◌, true, false, sym, ap, ◌∙◌, arith}
use Rattle.std.proofs.lemmas.Bool.{cond-true, lt-ltb}
use Rattle.console_sets.specs.Bound.{max_consoles}
use Rattle.console_sets.specs.Sets.{joined}
use Rattle.console_sets.proofs.SetOf.{set_of_none, set_of_step}
use Rattle.console_sets.proofs.searches.set_of.Goals as goal
use Rattle.console_sets.proofs.searches.set_of.Goals.{then-test, else-test}

pub loop-c-init : goal.loop-c-init
loop-c-init g c = λ p h. sym (set_of_none p)

pub loop-c-preserved : goal.loop-c-preserved
loop-c-preserved g c = λ p h.
    let i = c.loop-c.c in
    let near : i < max_consoles = omega arith in
    elim c.if-test.branch [
      | then-test w ↦
          w.set-is ∙ w.with-set.ensures ∙ cond-true _ _ _ (lt-ltb i max_consoles near) ∙ ap (λ (s : ℕ). joined s i) (c.loop-c.invariant p h)
          ∙ sym (set_of_step p i true (h i (omega arith) _ w.if-test.ensures))
      | else-test w ↦ w.set-is ∙ c.loop-c.invariant p h ∙ sym (set_of_step p i false (h i (omega arith) _ w.if-test.ensures))
    ]

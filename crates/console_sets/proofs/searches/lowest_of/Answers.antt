use Rattle.std.proofs.Common.{◌≡◌, ℕ, Some, ◌<◌, false, sym, ap, ◌∙◌, add-one, arith}
use Rattle.console_sets.specs.Sets.{console_of}
use Rattle.console_sets.proofs.Lowest.{console_some, is_lowest, zero-lowest}
use Rattle.console_sets.proofs.searches.lowest_of.Goals as goal

pub returns-then-test-clause-lowest : goal.returns-then-test-clause-lowest
returns-then-test-clause-lowest g c = λ p h.
    let below : (d : ℕ) → d < c.loop-c.c → p d ≡ false = λ d l. sym (h d (omega arith) _ (c.loop-c.invariant d l)) in
    ap Some (add-one c.loop-c.c) ∙ sym (console_some c.loop-c.c) ∙ ap console_of (sym (is_lowest p c.args.n c.loop-c.c c.loop-c-test.true (sym (h _ c.loop-c-test.true _ c.if-test.ensures)) below))

pub returns-clause-lowest : goal.returns-clause-lowest
returns-clause-lowest g c = λ p h. ap console_of (sym (zero-lowest p c.args.n (λ d l. sym (h d l _ (c.loop-c.invariant d (omega arith))))))

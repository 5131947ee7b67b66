use Rattle.std.proofs.Common.{◌≡◌, [], ◌∷◌, ◌++◌, length, decimal, refl, ap, ◌∙◌, append_assoc, arith}
use Rattle.std.proofs.lemmas.List.{length-append}
use Rattle.sheet.proofs.Decimals.{spelt_none, spelt_before, spelt_more, spelt_part}
use Rattle.sheet.proofs.text.Text.number.Goals as goal

pub loop-rest-init : goal.loop-rest-init
loop-rest-init c = spelt_none _ c.args.number refl (omega arith)

pub overflow_sub-start-in-loop-rest : goal.overflow_sub-start-in-loop-rest
overflow_sub-start-in-loop-rest c = spelt_before c.loop-rest-test.true c.loop-rest.invariant

pub loop-rest-preserved : goal.loop-rest-preserved
loop-rest-preserved c = spelt_more c.loop-rest-test.true c.loop-rest.invariant

pub and-requires-2 : goal.and-requires-2
and-requires-2 c = omega (arith, c.requires, ap length (spelt_part (omega arith) c.loop-rest.invariant), ap length c.and.ensures, length-append c.args.self (9 ∷ []))

pub returns-clause-holds : goal.returns-clause-holds
returns-clause-holds c =
    c.and-2.ensures
    ∙ (λ j. c.and.ensures j ++ spelt_part (omega arith) c.loop-rest.invariant j)
    ∙ append_assoc c.args.self (9 ∷ []) (decimal c.args.number)

pub returns-clause-used : goal.returns-clause-used
returns-clause-used c =
    let e : c.and-2.result ≡ c.args.self ++ (9 ∷ decimal c.args.number) =
    c.and-2.ensures
    ∙ (λ j. c.and.ensures j ++ spelt_part (omega arith) c.loop-rest.invariant j)
    ∙ append_assoc c.args.self (9 ∷ []) (decimal c.args.number) in
    omega (arith, ap length e, length-append c.args.self (9 ∷ decimal c.args.number))

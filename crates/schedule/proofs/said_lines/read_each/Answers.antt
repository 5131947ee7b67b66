use Rattle.std.proofs.Common.{◌≡◌, ◌+◌, None, refl, ◌∙◌, inl, inr, arith, rules}
use Rattle.std.proofs.lemmas.Result.{err_from_is_err_and}
use Rattle.schedule.specs.Values.{proposal_said}
use Rattle.schedule.specs.Said.{proposal_at}
use Rattle.schedule.specs.Fields.{left}
use Rattle.schedule.proofs.Each.{said_next, sofar_more, none_left, answers_bad, answers_all}
use Rattle.schedule.proofs.said_lines.read_each.Goals as goal

pub returns-in_err-value : goal.returns-in_err-value
returns-in_err-value g c =
    let says = proposal_said g.V.ConsoleValue.BLANK g.V.FieldValue.said in
    let k = c.in-Some.ensures.steps in
    let here = c.loop-c.invariant.2 in
    let said = said_next g.V.ConsoleValue.BLANK says c.args.fallen (left c.args.fields) _ _ _ c.loop-c.values _ _ _ _ here k.1 k.0.1.1 c.has.ensures c.said_of.ensures in
    let none : c.said_of.result ≡ None = search rules in
    let low : c.in_err-value.field-0.0 ≡ c.loop-c.c-iterator.a.start + 1 = search rules in
    let p = err_from_is_err_and c.from_residual.result c.from_residual.ensures.1 in
    rw (p.1, p.2, low) (answers_bad g.V.ConsoleValue.BLANK (proposal_at says c.args.fallen (left c.args.fields)) (left c.args.fields) _ c.loop-c.values _ c.args.n here (omega (arith, k, c.loop-c.invariant)) (said ∙ none))

pub loop-c-preserved : goal.loop-c-preserved
loop-c-preserved g c =
    let says = proposal_said g.V.ConsoleValue.BLANK g.V.FieldValue.said in
    let k = c.in-Some.ensures.steps in
    let here = c.loop-c.invariant.2 in
    let said = said_next g.V.ConsoleValue.BLANK says c.args.fallen (left c.args.fields) _ _ _ c.loop-c.values _ _ _ _ here k.1 k.0.1.1 c.has.ensures c.said_of.ensures in
    let more = sofar_more g.V.ConsoleValue.BLANK (proposal_at says c.args.fallen (left c.args.fields)) (left c.args.fields) _ _ _ c.loop-c.values c.loop-c.values _ c.in_ok-value.value here (said ∙ c.in_ok-value.ensures.ok_part) k.1 (inr (refl, omega (arith, k))) in
    (k.0.0 ∙ c.loop-c.invariant.0, omega (arith, k), rw k.0.1.2 more)

pub returns : goal.returns
returns g c =
    let says = proposal_at (proposal_said g.V.ConsoleValue.BLANK g.V.FieldValue.said) c.args.fallen (left c.args.fields) in
    let here = c.loop-c.invariant.2 in
    let all : c.loop-c.c-iterator.a.start ≡ c.args.n =
    elim c.in-None.ensures.steps [
      | inl w ↦ omega (arith, w.1, c.loop-c.invariant)
      | inr w ↦ omega (arith, none_left g.V.ConsoleValue.BLANK says (left c.args.fields) _ c.loop-c.values _ here w.1.0, c.requires, c.loop-c.invariant)
    ] in
    answers_all g.V.ConsoleValue.BLANK says (left c.args.fields) _ c.loop-c.values _ c.args.n here all

use Rattle.std.proofs.Common.{◌≡◌, suc, ap, sym, ◌∙◌, arith, rules, None, Some, Ok, Err}
use Rattle.std.proofs.lemmas.Result.{err_from_is_err_and}
use Rattle.schedule.specs.declared.refusal.FileRefusal.TheVariants.{BadField}
use Rattle.schedule.specs.Numbers.{set_said}
use Rattle.schedule.specs.Said.{field}
use Rattle.schedule.specs.Fields.{left}
use Rattle.schedule.proofs.Rows.{round_answer, round_is, row_behind, walk, rest_is, first_is}
use Rattle.schedule.proofs.said_lines.round_line.Goals as goal

pub returns-in_err-falls : goal.returns-in_err-falls
returns-in_err-falls c =
    let fs = left c.args.fields in
    let p = err_from_is_err_and c.from_residual-in_err-falls.result c.from_residual-in_err-falls.ensures.1 in
    let first = first_is fs (left c.next.new.self) c.next.result (omega (arith, c.in_ok-check_count.ensures.ok)) c.next.ensures.steps in
    let said : c.and_then.result ≡ set_said first.0.now = search (rules, first.1) in
    let none : c.and_then.result ≡ None = search rules in
    let last : c.in_err-falls.field-0.0 ≡ BadField c.args.line 2 = search rules in
    rw (p.1, p.2, last)
    (sym (round_is c.args.n c.args.line fs (omega (arith, c.in_ok-check_count.ensures.ok))
    ∙ ap (λ o. round_answer c.args.line o (walk c.args.n (λ i. set_said (field fs (suc i))))) (sym (said ∙ ap set_said first.2) ∙ none)))

pub returns-in_err-rows : goal.returns-in_err-rows
returns-in_err-rows c =
    let fs = left c.args.fields in
    let p = err_from_is_err_and c.from_residual-in_err-rows.result c.from_residual-in_err-rows.ensures.1 in
    let first = first_is fs (left c.next.new.self) c.next.result (omega (arith, c.in_ok-check_count.ensures.ok)) c.next.ensures.steps in
    let said : c.and_then.result ≡ set_said first.0.now = search (rules, first.1) in
    let rows = c.read_each.ensures ∙ row_behind c.args.n c.args.line fs (left c.next.new.self) (rest_is fs _ c.next.result c.next.ensures.steps) in
    let bad : Err c.in_err-rows.field-0.0 ≡ round_answer c.args.line (Some c.in_ok-falls.falls) c.read_each.result = search rules in
    rw (p.1, p.2) (bad
    ∙ (λ j. round_answer c.args.line ((sym c.in_ok-falls.ensures.ok_part ∙ said ∙ ap set_said first.2) j) (rows j))
    ∙ sym (round_is c.args.n c.args.line fs (omega (arith, c.in_ok-check_count.ensures.ok))))

pub returns : goal.returns
returns c =
    let fs = left c.args.fields in
    let first = first_is fs (left c.next.new.self) c.next.result (omega (arith, c.in_ok-check_count.ensures.ok)) c.next.ensures.steps in
    let said : c.and_then.result ≡ set_said first.0.now = search (rules, first.1) in
    let rows = c.read_each.ensures ∙ row_behind c.args.n c.args.line fs (left c.next.new.self) (rest_is fs _ c.next.result c.next.ensures.steps) in
    let good : Ok c.in_ok-rows.rows ≡ c.read_each.result = search rules in
    (λ j. round_answer c.args.line ((sym c.in_ok-falls.ensures.ok_part ∙ said ∙ ap set_said first.2) j) ((good ∙ rows) j))
    ∙ sym (round_is c.args.n c.args.line fs (omega (arith, c.in_ok-check_count.ensures.ok)))

use Rattle.std.proofs.Common.{ℕ, ◌≤◌, Err, ap, ◌∙◌, arith}
use Rattle.std.proofs.lemmas.List.{length-take}
use Rattle.std.proofs.lemmas.Result.{err_from_is_err_and}
use Rattle.sheet.specs.Lines.{lines_of}
use Rattle.sheet.proofs.Printing.{outcome, printed_as}
use Rattle.sheet.proofs.Rows.{row_of}
use Rattle.sheet.proofs.Paging.{same_line, head_done, row_done, row_stops, rows_done}
use Rattle.sheet.proofs.printer.print_page.Goals as goal

pub loop-i-init : goal.loop-i-init
loop-i-init c =
    let page = c.args.page.now in
    let t = c.in_ok-used.ensures in
    head_done c.args.round_length c.min-n.result page (same_line c.page_line.ensures (record { answers = t.answers; leaves = t.leaves }))
    ∙ ap (λ (n : ℕ). outcome c.args.out.now c.args.len (lines_of n c.args.round_length page)) c.min-n.ensures

pub loop-i-preserved : goal.loop-i-preserved
loop-i-preserved c =
    let cs = c.args.page.now.consoles in
    let r = row_of c.args.round_length cs c.min-n.result c.loop-i.i c.loop-i-test.true in
    let t = c.in_ok-used-2.ensures in
    row_done c.args.round_length c.min-n.result cs c.loop-i.i r.0
    (same_line (c.console_line.ensures ∙ r.1) (record { answers = t.answers; leaves = t.leaves }))
    ∙ c.loop-i.invariant

pub returns : goal.returns
returns c =
    let cs = c.args.page.now.consoles in
    let l : c.min-n.result ≤ c.loop-i.i = omega (arith, c.loop-i-test.false, length-take c.min-n.result cs) in
    let p = printed_as c.loop-i.invariant (rows_done c.args.round_length c.min-n.result cs c.loop-i.i c.loop-i.out c.loop-i.used l) in
    record { answers = p.answers; leaves = p.leaves }

pub returns-in_err-used-2 : goal.returns-in_err-used-2
returns-in_err-used-2 c =
    let cs = c.args.page.now.consoles in
    let y = err_from_is_err_and c.from_residual-in_err-used-2.result c.from_residual-in_err-used-2.ensures.1 in
    let r = row_of c.args.round_length cs c.min-n.result c.loop-i.i c.loop-i-test.true in
    let t = c.in_err-used-2.ensures in
    let p = printed_as c.loop-i.invariant (row_stops c.args.round_length c.min-n.result cs c.loop-i.i r.0
    (same_line (c.console_line.ensures ∙ r.1) (record { answers = t.answers; leaves = t.leaves }))) in
    record { answers = y.1 ∙ ap Err y.2 ∙ p.answers; leaves = p.leaves }

use Rattle.std.proofs.Common.{◌≡◌, None, sym, ap, ◌∙◌, rules}
use Rattle.std.proofs.lemmas.Result.{err_from_is_err_and}
use Rattle.schedule.specs.Numbers.{number_said}
use Rattle.schedule.specs.Fields.{left}
use Rattle.schedule.specs.declared.refusal.FileRefusal.TheVariants.{BadField}
use Rattle.schedule.proofs.Rig.{rig_is, rig_bad_length}
use Rattle.schedule.proofs.said_lines.rig_line.Goals as goal

pub returns-in_err-n : goal.returns-in_err-n
returns-in_err-n c = let p = err_from_is_err_and c.from_residual-in_err-n.result c.from_residual-in_err-n.ensures.1 in rw (p.1, p.2) (search (rules, rig_is))

pub returns-in_err-t : goal.returns-in_err-t
returns-in_err-t c = let p = err_from_is_err_and c.from_residual-in_err-t.result c.from_residual-in_err-t.ensures.1 in rw (p.1, p.2) (search (rules, rig_is))

pub returns-in_err-proposals : goal.returns-in_err-proposals
returns-in_err-proposals c = let p = err_from_is_err_and c.from_residual-in_err-proposals.result c.from_residual-in_err-proposals.ensures.1 in rw (p.1, p.2) (search (rules, rig_is))

pub returns-in_err-back_end : goal.returns-in_err-back_end
returns-in_err-back_end c = let p = err_from_is_err_and c.from_residual-in_err-back_end.result c.from_residual-in_err-back_end.ensures.1 in rw (p.1, p.2) (search (rules, rig_is))

pub returns-in_err-round_length : goal.returns-in_err-round_length
returns-in_err-round_length c =
    let p = err_from_is_err_and c.from_residual-in_err-round_length.result c.from_residual-in_err-round_length.ensures.1 in
    let said = c.number.ensures ∙ ap (number_said 1 1000000) c.at-5.ensures in
    let none : c.number.result ≡ None = search rules in
    let last : c.in_err-round_length.field-0.0 ≡ BadField c.args.line 6 = search rules in
    rw (p.1, p.2, last) (rig_bad_length c.args.line (left c.args.fields) c.in_ok-n.n c.in_ok-t.t c.in_ok-proposals.proposals c.in_ok-back_end.back_end (sym c.in_ok-check_count.ensures.ok)
    (search rules) (search rules) (search rules) (search rules) (sym none ∙ said))

pub returns : goal.returns
returns c = search (rules, rig_is)

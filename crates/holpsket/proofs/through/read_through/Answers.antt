use Rattle.std.proofs.Common.{◌≡◌, ◌+◌, ◌<◌, length, sym, ap, ◌∙◌, arith, rules}
use Rattle.std.proofs.lemmas.Result.{err_from_is_err_and}
use Rattle.std.proofs.lemmas.List.{nil_from_length}
use Rattle.schedule.specs.Parts.{parted}
use Rattle.schedule.specs.declared.refusal.FileRefusal.TheVariants.{LineLength}
use Rattle.holpsket.specs.declared.stop.Stop.TheVariants.{File}
use Rattle.holpsket.specs.Through.{lines}
use Rattle.holpsket.proofs.Lines.{lines_none, lines_bad, lines_next, lines_stop, line_takes, through, next_some, next_none}
use Rattle.holpsket.proofs.through.read_through.Goals as goal

pub returns-in_err-bytes : goal.returns-in_err-bytes
returns-in_err-bytes c =
    let none = next_none c.loop-rest.rest.now c.next_line.result c.next_line.ensures c.in_err-bytes.ensures.variant in
    let some : 0 < length c.args.schedule.now = search rules in
    let left : 0 < length c.loop-rest.rest.now = search rules in
    let p = err_from_is_err_and c.from_residual.result c.from_residual.ensures.1 in
    let stop : p.0 ≡ File (LineLength (c.loop-rest.line + 1)) = search (rules, p.2) in
    rw (p.1, stop) (through c.args.schedule.now _ (omega arith) some
    (sym c.loop-rest.invariant.0 ∙ lines_bad c.loop-rest.reading c.loop-rest.line c.loop-rest.rest.now left none))

pub returns-in_err-reading : goal.returns-in_err-reading
returns-in_err-reading c =
    let is = next_some c.loop-rest.rest.now c.next_line.result _ c.next_line.ensures c.in_ok-bytes.ensures.ok_part in
    let some : 0 < length c.args.schedule.now = omega (arith, line_takes c.loop-rest.rest.now c.in_ok-bytes.bytes.now c.in_ok-bytes.others.now is, c.loop-rest.invariant.1) in
    let p = err_from_is_err_and c.from_residual-in_err-reading.result c.from_residual-in_err-reading.ensures.1 in
    rw (p.1, p.2) (through c.args.schedule.now _ (omega arith) some
    (sym c.loop-rest.invariant.0
    ∙ lines_stop c.loop-rest.reading c.loop-rest.line c.loop-rest.rest.now c.in_ok-bytes.bytes.now c.in_ok-bytes.others.now c.in_err-reading.field-0.0 is c.in_err-reading.ensures))

pub loop-rest-smaller : goal.loop-rest-smaller
loop-rest-smaller c =
    line_takes c.loop-rest.rest.now c.in_ok-bytes.bytes.now c.in_ok-bytes.others.now (next_some c.loop-rest.rest.now c.next_line.result _ c.next_line.ensures c.in_ok-bytes.ensures.ok_part)

pub loop-rest-preserved : goal.loop-rest-preserved
loop-rest-preserved c =
    let is = next_some c.loop-rest.rest.now c.next_line.result _ c.next_line.ensures c.in_ok-bytes.ensures.ok_part in (
      sym (lines_next c.loop-rest.reading c.loop-rest.line c.loop-rest.rest.now c.in_ok-bytes.bytes.now c.in_ok-bytes.others.now c.in_ok-reading.reading is c.in_ok-reading.ensures)
          ∙ c.loop-rest.invariant.0,
      omega (arith, line_takes c.loop-rest.rest.now c.in_ok-bytes.bytes.now c.in_ok-bytes.others.now is, c.loop-rest.invariant.1),
    )

pub returns : goal.returns
returns c =
    let some : 0 < length c.args.schedule.now = search rules in
    let none : length c.loop-rest.rest.now ≡ 0 = search rules in
    through c.args.schedule.now _ (omega arith) some
    (sym c.loop-rest.invariant.0
    ∙ ap (λ t. lines c.loop-rest.reading c.loop-rest.line (parted 10 t)) (nil_from_length c.loop-rest.rest.now none)
    ∙ lines_none c.loop-rest.reading c.loop-rest.line)

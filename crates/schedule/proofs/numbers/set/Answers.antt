use Rattle.std.proofs.Common.{arith, rules}
use Rattle.schedule.proofs.Digits.{set_fits, set_bad}
use Rattle.schedule.proofs.numbers.set.Goals as goal

pub returns-in_err-number_in : goal.returns-in_err-number_in
returns-in_err-number_in c =
    let bad = set_bad c.args.field.now (omega arith) c.in_err-number_in.ensures in
    rw c.from_residual.ensures (search rules)

pub returns : goal.returns
returns c =
    let fits = set_fits c.args.field.now c.in_ok-number_in.field-0 (omega arith) c.in_ok-number_in.ensures in
    search rules

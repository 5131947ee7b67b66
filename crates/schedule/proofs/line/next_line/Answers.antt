use Rattle.std.proofs.Common.{◌≤◌, length, arith, rules}
use Rattle.schedule.specs.Lines.{longest_line}
use Rattle.schedule.proofs.NextLine.{is_line, one_line}
use Rattle.schedule.proofs.line.next_line.Goals as goal

pub returns-in-10 : goal.returns-in-10
returns-in-10 c = let short : length c.cut.result.0.now ≤ longest_line = omega arith in search (rules, is_line)

pub returns-in_default : goal.returns-in_default
returns-in_default c = λ a b h.
    let found = one_line c.args.input.now c.cut.result.0.now c.cut.result.1.now a b c.cut.ensures.front c.cut.ensures.rest h in
    search rules

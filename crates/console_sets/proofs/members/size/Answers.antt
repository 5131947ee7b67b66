use Rattle.std.proofs.Common.{arith}
use Rattle.console_sets.specs.Bound.{max_consoles}
use Rattle.console_sets.proofs.Digits.{ones-count}
use Rattle.console_sets.proofs.members.size.Goals as goal

pub returns : goal.returns
returns c = ones-count max_consoles c.args.s (omega arith)

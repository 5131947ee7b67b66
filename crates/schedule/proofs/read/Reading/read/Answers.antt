use Rattle.std.proofs.Common.{sym, ap}
use Rattle.schedule.specs.Parts.{later}
use Rattle.schedule.specs.Reading.{said_where}
use Rattle.schedule.proofs.Words.{unknown}
use Rattle.schedule.proofs.read.Reading.read.Goals as goal

pub returns-in-None : goal.returns-in-None
returns-in-None c = sym (ap (said_where c.args.self.now c.args.line (later 9 c.args.bytes.now)) (unknown c.args.bytes.now c.in-None.ensures))

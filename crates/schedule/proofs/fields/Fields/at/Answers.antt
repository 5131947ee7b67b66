use Rattle.std.proofs.Common.{refl}
use Rattle.std.proofs.lemmas.Iterator.Consumers.{nth_from_yields_List, YieldsList-from_first}
use Rattle.schedule.specs.Fields.{left}
use Rattle.schedule.proofs.Parted.{at_index}
use Rattle.schedule.proofs.fields.Fields.at.Goals as goal

pub returns : goal.returns
returns c =
    at_index (left c.args.self) c.args.i c.nth.result _ _
    (nth_from_yields_List c.nth.result c.nth.new.self c.args.i c.nth.ensures.ran (YieldsList-from_first (λ x. x.now) left {s = c.args.self} (left c.args.self) refl))
    c.unwrap_or.ensures refl

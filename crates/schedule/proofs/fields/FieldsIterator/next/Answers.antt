use Rattle.std.proofs.Common.{length, ap, ◌∙◌, arith}
use Rattle.schedule.specs.Parts.{starts}
use Rattle.schedule.proofs.Parted.{starts_onward, later_tabbed}
use Rattle.schedule.proofs.fields.FieldsIterator.next.Goals as goal
use Rattle.schedule.proofs.fields.FieldsIterator.next.Goals.{After-others-2-1}

pub invariant_of-self : goal.invariant_of-self
invariant_of-self c = record { tabbed = ap (starts 9) c.cut.ensures.rest ∙ starts_onward 9 c.in_ok-rest.rest.now }

pub returns-clause-steps : goal.returns-clause-steps
returns-clause-steps c = later_tabbed 9 c.args.self.now.bytes.now _ _ _ _ c.args.self.now.tabbed c.in_ok-rest.ensures.cases.0 c.cut.ensures.front c.cut.ensures.rest

pub returns-clause-goes : goal.returns-clause-goes
returns-clause-goes c =
    let one = later_tabbed 9 c.args.self.now.bytes.now _ _ _ _ c.args.self.now.tabbed c.in_ok-rest.ensures.cases.0 c.cut.ensures.front c.cut.ensures.rest in
    record { on = λ _. (tt, tt, omega (arith, ap length one)); keeps = tt; rests = λ _. tt }

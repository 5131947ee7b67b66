use Rattle.std.proofs.Common.{length, refl, ap}
use Rattle.orders.specs.Ranks.{between}
use Rattle.rig.specs.Calls.{asked}
use Rattle.rig.proofs.Stepping.{moved, press_done, round_done, close_done}
use Rattle.rig.proofs.rig.Rig.step.Goals as goal

pub returns-in-Ok : goal.returns-in-Ok
returns-in-Ok g c =
    let b = c.args.self.now in
    let xs = c.in-Press.proposals.now in
    moved g.B.BackEnd.meaning b c.press.new.self (ap (asked g.P.Order.places) c.in-Press.is) refl
    (press_done g.B.BackEnd.meaning b c.press.new.self (length xs) (between g.P.Order.places xs) c.in-Ok.ensures.answers.0 c.in-Ok.ensures.leaves)

pub returns-in-Round : goal.returns-in-Round
returns-in-Round g c =
    let b = c.args.self.now in
    let call = c.in-Round in
    moved g.B.BackEnd.meaning b c.advance.new.self (ap (asked g.P.Order.places) c.in-Round.is) c.err.ensures.value
    (round_done g.B.BackEnd.meaning b c.advance.new.self call.rig call.press call.falls call.rows.now c.advance.result c.advance.ensures.answers
    c.advance.ensures.leaves)

pub returns-in-Close : goal.returns-in-Close
returns-in-Close g c =
    let b = c.args.self.now in
    moved g.B.BackEnd.meaning b c.shut.new.self (ap (asked g.P.Order.places) c.in-Close.is) c.err-in-Close.ensures.value
    (close_done g.B.BackEnd.meaning b c.shut.new.self c.in-Close.rig c.in-Close.press c.shut.result _ c.shut.ensures.answers c.shut.ensures.leaves)

use Rattle.leader.proofs.Invariant.{ghosts}
use Rattle.leader.proofs.Keeps.{as_begun, as_meant, advanced_keeps}
use Rattle.leader.proofs.state.Leader.advanced.Goals as goal

pub invariant_of-result : goal.invariant_of-result
invariant_of-result c =
    let p = c.in_ok-progress in
    let a = c.next_consoles-consoles in
    ghosts (advanced_keeps c.args.self.now c.args.falls c.args.rows.now p.progress a.result p.ensures.1 a.ensures p.ensures.0)

pub returns : goal.returns
returns c =
    let b = c.args.self.now in
    let falls = c.args.falls in
    let rows = c.args.rows.now in
    let p = c.in_ok-progress in
    let a = c.next_consoles-consoles in
    (p.ensures.0, (as_meant b.progress p.progress falls rows b.consoles a.result p.ensures.1 a.ensures, as_begun b.progress p.progress falls rows b.consoles a.result p.ensures.1 a.ensures))

use Rattle.rounds.proofs.Accepted.{start_ok}
use Rattle.leader.specs.Rule.{who}
use Rattle.leader.proofs.Invariant.{ghosts}
use Rattle.leader.proofs.Keeps.{as_started, started_keeps}
use Rattle.leader.proofs.state.Leader.started.Goals as goal

pub invariant_of-result : goal.invariant_of-result
invariant_of-result c =
    let b = c.args.self.now in
    let entries = c.args.entries.now in
    let p = c.in_ok-progress in
    let o = c.opened-consoles in
    let r = as_started b c.args.running entries p.progress o.result p.ensures.1 o.ensures in
    ghosts (started_keeps c.args.running entries (who o.result) _ _ r b.keeps.served (start_ok b.progress.n b.progress.t c.args.running entries p.ensures.0) p.progress.within o.ensures)

pub returns : goal.returns
returns c =
    let p = c.in_ok-progress in
    let o = c.opened-consoles in
    (p.ensures.0, (as_started c.args.self.now c.args.running c.args.entries.now p.progress o.result p.ensures.1 o.ensures, o.ensures))

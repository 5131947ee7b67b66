use Rattle.std.proofs.Common.{replicate, refl}
use Rattle.console_sets.specs.Bound.{max_consoles}
use Rattle.rounds.proofs.Accepted.{start_ok}
use Rattle.rounds.proofs.Fill.{blank}
use Rattle.third.specs.Keeps.{started_keeps}
use Rattle.third.proofs.state.Third.started.Goals as goal

pub invariant_of-result : goal.invariant_of-result
invariant_of-result c =
    let b = c.args.self.now in
    let p = c.in_ok-progress.progress in
    let e = c.in_ok-progress.ensures in
    let s = e.1 b.verdicts (replicate max_consoles 0) (λ i. blank max_consoles i 0) in
    let k = started_keeps b.progress.t c.args.running c.args.entries.now _ _ s b.keeps.served p.within (start_ok _ _ _ _ e.0) in
    record { keeps = k }

pub returns : goal.returns
returns c =
    let e = c.in_ok-progress.ensures in
    (e.0, (e.1 c.args.self.now.verdicts (replicate max_consoles 0) (λ i. blank max_consoles i 0), refl))

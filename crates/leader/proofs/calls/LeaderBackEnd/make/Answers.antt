use Rattle.std.proofs.Common.{Bool, sym, ap, ◌∙◌}
use Rattle.rounds.specs.Checks.{make_refusal}
use Rattle.leader.specs.Rule.{who}
use Rattle.leader.proofs.Invariant.{ghosts}
use Rattle.leader.proofs.Keeps.{as_made, made_keeps}
use Rattle.leader.proofs.calls.LeaderBackEnd.make.Goals as goal

pub invariant_of-result : goal.invariant_of-result
invariant_of-result c =
    let p = c.in_ok-progress in
    let served = sym (ap (λ (b : Bool). make_refusal b c.args.n c.args.t) c.is_served.ensures) in
    let r = as_made c.args.n c.args.t p.progress c.opened.result p.ensures.1 c.opened.ensures in
    ghosts (made_keeps c.args.n c.args.t (who c.opened.result) _ r (served ∙ p.ensures.0) p.progress.within c.opened.ensures)

pub returns : goal.returns
returns c =
    let p = c.in_ok-progress in
    let served = sym (ap (λ (b : Bool). make_refusal b c.args.n c.args.t) c.is_served.ensures) in
    (served ∙ p.ensures.0, as_made c.args.n c.args.t p.progress c.opened.result p.ensures.1 c.opened.ensures)

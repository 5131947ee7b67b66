use Rattle.std.proofs.Common.{rules, arith}
use Rattle.third.proofs.Advance.{advance}
use Rattle.third.proofs.state.Third.advanced.Goals as goal

pub invariant_of-result : goal.invariant_of-result
invariant_of-result c =
    let e = c.in_ok-progress.ensures in
    let estimates = c.array_of-estimates in
    let verdicts = c.array_of-verdicts in
    let k = (advance c.args.self.now c.in_ok-progress.progress c.args.falls c.args.rows.now c.backers-sets.result
    estimates.result verdicts.result e.0 e.1 c.backers-sets.ensures (omega arith) (omega arith)
    (estimates.ensures.below _ (λ i l x h. search rules) 0, estimates.ensures.beyond 0) (verdicts.ensures.below _ (λ i l x h. search rules) 0, verdicts.ensures.beyond 0)).keep in
    record { keeps = k }

pub returns : goal.returns
returns c =
    let e = c.in_ok-progress.ensures in
    let estimates = c.array_of-estimates in
    let verdicts = c.array_of-verdicts in
    let a = advance c.args.self.now c.in_ok-progress.progress c.args.falls c.args.rows.now c.backers-sets.result
    estimates.result verdicts.result e.0 e.1 c.backers-sets.ensures (omega arith) (omega arith)
    (estimates.ensures.below _ (λ i l x h. search rules) 0, estimates.ensures.beyond 0) (verdicts.ensures.below _ (λ i l x h. search rules) 0, verdicts.ensures.beyond 0) in
    (e.0, (a.means, a.steps))

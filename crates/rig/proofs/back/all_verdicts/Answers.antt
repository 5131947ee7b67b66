use Rattle.std.proofs.Common.{rules, cond, nat_lt}
use Rattle.rounds.specs.Items.{at}
use Rattle.rig.proofs.back.all_verdicts.Goals as goal

pub returns : goal.returns
returns g c =
    let m = g.B.BackEnd.meaning c.args.back.now in
    c.array_of.ensures.below (λ i. cond (nat_lt i m.n) (at m.verdicts i) 0) (λ i l x h. search rules) 0

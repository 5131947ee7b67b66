use Rattle.std.proofs.Common.{rules, arith}
use Rattle.console_sets.proofs.Everywhere.{everywhere}
use Rattle.leader.specs.Rule.{opening, who, console_after}
use Rattle.leader.proofs.Namers.{tells, past}
use Rattle.leader.proofs.steps.next_consoles.Goals as goal

pub array_of-requires : goal.array_of-requires
array_of-requires c =
    let p = c.args.progress in
    let leaders = c.array_of-leaders in
    let t = tells p.n leaders.result c.backers-namers.result c.args.consoles.now p.few
    (leaders.ensures.below (λ i. (who c.args.consoles.now i).leader) (λ i l x h. search rules) 0) c.backers-namers.ensures in
    search rules

pub returns : goal.returns
returns c =
    let p = c.args.progress in
    let consoles = c.args.consoles.now in
    let f = console_after p.n p.rounds p.running c.args.rows.now (who consoles) in
    everywhere c.array_of.result f (opening 0) (c.array_of.ensures.below f (λ i l x h. search rules) (opening 0)) (c.array_of.ensures.beyond (opening 0))
    (past p.n p.rounds p.running c.args.rows.now consoles p.few p.within (omega arith))

use Rattle.std.proofs.Common.{rules, length, ◌&&◌, ◌∙◌, arith}
use Rattle.console_sets.specs.Bound.{max_consoles}
use Rattle.console_sets.proofs.Digits.{member_above}
use Rattle.orders.specs.Ranks.{between, ahead_of, takes_part}
use Rattle.orders.proofs.Ranked.{rank-count}
use Rattle.orders.proofs.ranking.rank_of.Goals as goal

pub returns : goal.returns
returns g c =
    let n = length c.args.proposals.now in
    let place = between g.P.Order.places c.args.proposals.now in
    c.count_of.ensures (λ b. takes_part n c.args.running c.args.author && ahead_of n c.args.running place c.args.author b) (λ i l x h. search rules)
    ∙ rank-count n c.args.running place max_consoles c.args.author
    (λ i l. member_above max_consoles c.args.running i (omega arith) l)

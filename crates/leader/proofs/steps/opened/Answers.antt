use Rattle.std.proofs.Common.{rules, ap, arith}
use Rattle.std.proofs.lemmas.List.{get_or_past}
use Rattle.console_sets.proofs.Everywhere.{everywhere}
use Rattle.rounds.specs.Items.{at}
use Rattle.leader.specs.Rule.{opening}
use Rattle.leader.proofs.steps.opened.Goals as goal

pub returns : goal.returns
returns c =
    let entries = c.args.entries.now in
    everywhere c.array_of.result (λ i. opening (at entries i)) (opening 0) (c.array_of.ensures.below _ (λ i l x h. search rules) (opening 0))
    (c.array_of.ensures.beyond (opening 0)) (λ i l. ap opening (get_or_past entries i 0 (omega arith)))

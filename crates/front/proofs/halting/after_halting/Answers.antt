use Rattle.std.proofs.Common.{rules, min, arith}
use Rattle.console_sets.specs.Bound.{max_consoles}
use Rattle.rounds.specs.Items.{at}
use Rattle.front.specs.Consoles.{fresh, state_of}
use Rattle.front.specs.Halting.{after_halting}
use Rattle.front.proofs.Filled.{each_state}
use Rattle.front.proofs.halting.after_halting.Goals as goal

pub returns : goal.returns
unfolding after_halting
returns c =
    let after = after_halting (min c.args.n max_consoles) (at c.args.ranks.now) c.args.completing c.args.rows.now (state_of c.args.consoles.now) in
    each_state c.array_of.result c.args.consoles.now c.args.completing _ (omega arith) (omega arith)
    (c.array_of.ensures.below after (λ i l x h. search rules) (fresh 0)) (c.array_of.ensures.beyond (fresh 0))

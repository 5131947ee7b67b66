use Rattle.std.proofs.Common.{rules, arith}
use Rattle.front.specs.Consoles.{fresh, state_of}
use Rattle.front.specs.Deciding.{after_deciding}
use Rattle.front.proofs.Filled.{each_state}
use Rattle.front.proofs.deciding.after_deciding.Goals as goal

pub returns : goal.returns
unfolding after_deciding
returns c =
    let after = after_deciding c.args.n c.args.t c.args.completing c.args.rows.now (state_of c.args.consoles.now) in
    each_state c.array_of.result c.args.consoles.now c.args.completing _ (omega arith) (omega arith)
    (c.array_of.ensures.below after (λ i l x h. search rules) (fresh 0)) (c.array_of.ensures.beyond (fresh 0))

use Rattle.std.proofs.Common.{rules, cond, arith}
use Rattle.console_sets.specs.Sets.{member}
use Rattle.rounds.specs.Items.{at}
use Rattle.front.specs.Consoles.{fresh, state_of}
use Rattle.front.proofs.Filled.{each_state}
use Rattle.rig.specs.Later.{later, after_later}
use Rattle.rig.proofs.later.after_later.Goals as goal

pub returns : goal.returns
unfolding after_later
returns c =
    let s = state_of c.args.consoles.now in
    let made = λ (i : _). later c.args.n c.args.k (at c.args.rows.now i) (at c.args.verdicts.now i) s i in
    each_state c.array_of.result c.args.consoles.now c.args.completing made (omega arith) (omega arith)
    (c.array_of.ensures.below (λ i. cond (member c.args.completing i) (made i) (s i)) (λ i l x h. search rules) (fresh 0)) (c.array_of.ensures.beyond (fresh 0))

use Rattle.std.proofs.Common.{rules, arith}
use Rattle.console_sets.specs.Bound.{max_consoles}
use Rattle.console_sets.proofs.Everywhere.{everywhere}
use Rattle.front.specs.Consoles.{state_of}
use Rattle.front.specs.Deciding.{entries_after}
use Rattle.front.proofs.Filled.{outside}
use Rattle.front.proofs.deciding.entries.Goals as goal

pub returns : goal.returns
unfolding entries_after
returns c =
    let after = entries_after c.args.n c.args.t c.args.completing c.args.rows.now (state_of c.args.consoles.now) in
    everywhere c.array_of.result after 0 (c.array_of.ensures.below after (λ i l x h. search rules) 0) (c.array_of.ensures.beyond 0)
    (λ i l. outside max_consoles c.args.completing i _ 0 (omega arith) l)

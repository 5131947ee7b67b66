use Rattle.std.proofs.Common.{rules, ap, arith}
use Rattle.std.proofs.lemmas.Bool.{cond-false}
use Rattle.console_sets.specs.Bound.{max_consoles}
use Rattle.console_sets.specs.Sets.{member}
use Rattle.console_sets.proofs.Everywhere.{everywhere}
use Rattle.console_sets.proofs.Digits.{member_above}
use Rattle.front.specs.Consoles.{fresh, opened}
use Rattle.front.proofs.consoles.opening_consoles.Goals as goal

pub returns : goal.returns
returns c =
    let running = c.args.running in
    everywhere c.array_of.result (opened running) (fresh 0) (c.array_of.ensures.below (opened running) (λ i l x h. search rules) (fresh 0))
    (c.array_of.ensures.beyond (fresh 0)) (λ i l. ap fresh (cond-false (member running i) _ _ (member_above max_consoles running i (omega arith) l)))

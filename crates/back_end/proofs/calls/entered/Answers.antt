use Rattle.std.proofs.Common.{rules, cond, arith}
use Rattle.std.proofs.lemmas.Bool.{cond-false}
use Rattle.console_sets.specs.Bound.{max_consoles}
use Rattle.console_sets.specs.Sets.{member}
use Rattle.console_sets.proofs.Everywhere.{everywhere}
use Rattle.console_sets.proofs.Digits.{member_above}
use Rattle.rounds.specs.Items.{at}
use Rattle.back_end.proofs.calls.entered.Goals as goal

pub returns : goal.returns
returns c =
    let running = c.args.running in
    everywhere c.array_of.result (λ i. cond (member running i) (at c.args.entries.now i) 0) 0
    (c.array_of.ensures.below _ (λ i l x h. search rules) 0) (c.array_of.ensures.beyond 0)
    (λ i l. cond-false (member running i) _ _ (member_above max_consoles running i (omega arith) l))

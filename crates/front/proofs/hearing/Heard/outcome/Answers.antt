use Rattle.std.proofs.Common.{rules, ◌≡◌}
use Rattle.console_sets.specs.Sets.{member, console_of, lowest}
use Rattle.front.specs.Deciding.{outcome_of}
use Rattle.front.proofs.hearing.Heard.outcome.Goals as goal

pub returns-then-is_none : goal.returns-then-is_none
unfolding outcome_of
returns-then-is_none c =
    let heard = member c.args.self.now.row in
    let lowest_heard : c.lowest_of-heard.result ≡ console_of (lowest heard c.args.n) = c.lowest_of-heard.ensures.lowest heard (λ d l x h. search rules) in
    search rules

pub returns-else-is_none : goal.returns-else-is_none
unfolding outcome_of
returns-else-is_none c = search rules

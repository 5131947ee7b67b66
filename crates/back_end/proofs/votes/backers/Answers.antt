use Rattle.std.proofs.Common.{rules, suc, min, nat_eq}
use Rattle.console_sets.specs.Bound.{max_consoles}
use Rattle.console_sets.specs.Sets.{set_of}
use Rattle.rounds.specs.Items.{at}
use Rattle.back_end.proofs.votes.backers.Goals as goal

pub returns : goal.returns
returns c a l =
    c.array_of.ensures.below (λ i. set_of (λ d. nat_eq (at c.args.authors.now d) (suc i)) (min c.args.n max_consoles)) (λ i k x h. search rules) 0 a l

use Rattle.std.proofs.Common.{◌∙◌, rules, tests}
use Rattle.std.proofs.lemmas.Iterator.{YieldsList-from_slice}
use Rattle.schedule.proofs.Tries.{tried_from_yields_List}
use Rattle.schedule.proofs.Digits.{behind, digits_tried}
use Rattle.schedule.proofs.numbers.number_in.Goals as goal

pub returns : goal.returns
returns c =
    tried_from_yields_List _ (λ b. b.now) (behind c.args.base) _ (λ a x r q k. search (rules, tests)) _ 0 c.try_fold.result (λ e o d. d) c.try_fold.ensures.ran (YieldsList-from_slice c.args.bytes.now (cc))
    ∙ digits_tried c.args.base c.args.bytes.now c.requires

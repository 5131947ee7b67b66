use Rattle.schedule.proofs.Texts.{field_texts}
use Rattle.schedule.proofs.theorems.one_text_for_each_value.Goals as goal

pub returns : goal.returns
returns c = field_texts

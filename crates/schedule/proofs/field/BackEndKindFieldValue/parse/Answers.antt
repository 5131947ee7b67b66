use Rattle.std.proofs.Common.{arith}
use Rattle.std.proofs.lemmas.Bool.Decides.{nat_tests}
use Rattle.schedule.proofs.Same.{same_stands}
use Rattle.schedule.proofs.field.BackEndKindFieldValue.parse.Goals as goal

pub returns-in_default-6 : goal.returns-in_default-6
returns-in_default-6 c = simp same_stands (grind (arith, nat_tests))

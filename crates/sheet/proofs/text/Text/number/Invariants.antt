use Rattle.sheet.proofs.Decimals.{Spelt}
use Rattle.sheet.proofs.text.Text.number.Given as goal

abbrev pub invariant-loop-rest : goal.invariant-loop-rest
invariant-loop-rest l = Spelt l.digits l.start l.rest l.number

abbrev pub decreases-loop-rest : goal.decreases-loop-rest
decreases-loop-rest l = l.rest

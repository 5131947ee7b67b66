use Rattle.std.proofs.Common.{refl}
use Rattle.rig.specs.Steps.{told}
use Rattle.rig.proofs.rig.Rig.advance.Goals as goal

pub returns-clause-leaves : goal.returns-clause-leaves
returns-clause-leaves g c =
    let told-now = c.in_ok-verdicts.ensures in
    record {
      advanced = c.advanced-self.ensures (told c.args.self.now.panel (g.B.BackEnd.meaning c.hand_on.new.back)) told-now.answers.1;
      same_book = refl;
      handed = told-now.leaves;
    }

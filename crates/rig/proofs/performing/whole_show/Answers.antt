use Rattle.std.proofs.Common.{[]}
use Rattle.rig.specs.Shows.{Setting, first_day}
use Rattle.rig.proofs.Lift.{begun, first_stands}
use Rattle.rig.proofs.performing.whole_show.Goals as goal

pub returns-clause-performed : goal.returns-clause-performed
returns-clause-performed g c =
    let a = c.in_ok-rig.ensures in
    let s : Setting = record { number = c.args.number; n = c.args.n; t = c.args.t } in (
      a.0,
      c.perform.ensures s [] first_day
          (begun g.B.BackEnd.BOUND c.args.number c.args.n c.args.t _ _ a.0 a.1.1)
          (first_stands c.args.number c.args.n c.args.t _ _ a.1.0),
    )

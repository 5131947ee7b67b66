use Rattle.std.proofs.Common.{arith}
use Rattle.schedule.proofs.Parted.{later_here, later_past}
use Rattle.schedule.proofs.fields.Fields.len.Goals as goal
use Rattle.schedule.proofs.fields.Fields.len.Goals.{then-b-eq9, else-b-eq9}

pub loop-b-preserved : goal.loop-b-preserved
loop-b-preserved c =
    let bytes = c.args.self.now.bytes.now in
    elim c.if-b-eq9.branch [
      | then-b-eq9 w ↦ (omega (arith, later_here 9 bytes c.loop-b.b-index (omega arith) (omega arith), c.loop-b.invariant), omega arith)
      | else-b-eq9 w ↦ (omega (arith, later_past 9 bytes c.loop-b.b-index (omega arith) (omega arith), c.loop-b.invariant), omega arith)
    ]

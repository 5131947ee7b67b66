use Rattle.std.proofs.Common.{◌≡◌, ◌+◌, ◌≤◌, length, drop}
use Rattle.schedule.specs.Parts.{later}
use Rattle.schedule.proofs.fields.Fields.len.Given as goal

abbrev pub invariant-loop-b : goal.invariant-loop-b
invariant-loop-b l = (l.count + length (later 9 (drop l.b-index l.self.bytes.now)) ≡ length (later 9 l.self.bytes.now)) × (l.count ≤ l.b-index)

use Rattle.std.proofs.Common.{◌≡◌, ◌≤◌}
use Rattle.schedule.specs.Values.{proposal_said}
use Rattle.schedule.specs.Said.{proposal_at}
use Rattle.schedule.specs.Fields.{left}
use Rattle.schedule.proofs.Each.{Sofar}
use Rattle.schedule.proofs.said_lines.read_each.Given as goal

abbrev pub invariant-loop-c : goal.invariant-loop-c
invariant-loop-c g l =
    (l.c-iterator.a.end ≡ l.n) × (l.c-iterator.a.start ≤ l.n)
    × Sofar g.V.ConsoleValue.BLANK (proposal_at (proposal_said g.V.ConsoleValue.BLANK g.V.FieldValue.said) l.fallen (left l.fields)) (left l.fields) (left l.c-iterator.b) l.values l.c-iterator.a.start

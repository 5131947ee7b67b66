use Rattle.std.proofs.Common.{◌≡◌, ◌+◌, ◌≤◌, length}
use Rattle.schedule.specs.Parts.{parted}
use Rattle.schedule.specs.Reading.{begun}
use Rattle.holpsket.specs.Through.{lines}
use Rattle.holpsket.proofs.through.read_through.Given as goal

-- what is left to read gives the answer, and each line took a byte
abbrev pub invariant-loop-rest : goal.invariant-loop-rest
invariant-loop-rest l = (lines l.reading l.line (parted 10 l.rest) ≡ lines begun 0 (parted 10 l.schedule)) × (l.line + length l.rest ≤ length l.schedule)

abbrev pub decreases-loop-rest : goal.decreases-loop-rest
decreases-loop-rest l = length l.rest

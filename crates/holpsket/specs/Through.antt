-- A schedule read through to its end, line by line: how many lines it has, or the first refusal that reading alone can find.
use Rattle.std.specs.Prelude.{ℕ, suc, if◌then◌else◌, List, [], ◌∷◌, length, Some, None, Ok, Err, Option, Result, ◌==◌, nat_le, nat_lt}
use Rattle.rounds.specs.declared.refusals.Refusal.{Refusal}
use Rattle.rounds.specs.Checks.{size_refusal}
use Rattle.schedule.specs.declared.refusal.FileRefusal.{FileRefusal}
use Rattle.schedule.specs.declared.refusal.FileRefusal.TheVariants.{LineLength, Misplaced}
use Rattle.schedule.specs.declared.said.Said.{Said}
use Rattle.schedule.specs.declared.said.Said.TheVariants.{Rig, Press, Round, Close}
use Rattle.schedule.specs.declared.read.Reading.{Reading}
use Rattle.schedule.specs.Parts.{parted}
use Rattle.schedule.specs.Lines.{longest_line}
use Rattle.schedule.specs.Reading.{said_by, begun, after}
use Rattle.holpsket.specs.declared.stop.Stop.{Stop}
use Rattle.holpsket.specs.declared.stop.Stop.TheVariants.{File, Rig as OfRig}

-- the most bytes of a schedule
abbrev pub longest_schedule : ℕ
longest_schedule = 65536

-- the refusal of a rig line whose n or t no rig can have
abbrev pub unfit : Said → Option Refusal
unfit (Rig rig) = size_refusal rig.n rig.t
unfit (Press proposals) = None
unfit (Round round) = None
unfit Close = None

-- what a line leaves for reading the next, by what it says
abbrev pub left_by : Reading → ℕ → Said → Option Refusal → Result Reading Stop
left_by st line said None = Ok (after st said)
left_by st line said (Some refusal) = Err (OfRig refusal line)

abbrev pub left_after : Reading → ℕ → Result Said FileRefusal → Result Reading Stop
left_after st line (Ok said) = left_by st line said (unfit said)
left_after st line (Err refusal) = Err (File refusal)

-- what the line of this number leaves
abbrev pub left : Reading → ℕ → List ℕ → Result Reading Stop
left st line bytes = left_after st line (said_by st line bytes)

-- the count of lines, once `line` of them were read and these pieces, which line feeds part, are left; the last piece has no line feed
abbrev pub read_on : Result Reading Stop → ℕ → (Reading → ℕ → Result ℕ Stop) → Result ℕ Stop
read_on (Ok st) line more = more st line
read_on (Err stop) line more = Err stop

unfoldable pub lines : Reading → ℕ → List (List ℕ) → Result ℕ Stop
lines st line [] = Ok line
lines st line (bytes ∷ []) = if length bytes == 0 then Ok line else Err (File (LineLength (suc line)))
lines st line (bytes ∷ (next ∷ rest)) =
    if nat_le (length bytes) longest_line
    then read_on (left st (suc line) bytes) (suc line) (λ st line. lines st line (next ∷ rest))
    else Err (File (LineLength (suc line)))

-- the schedule read through
abbrev pub read_through : List ℕ → Result ℕ Stop
read_through bytes =
    if nat_lt longest_schedule (length bytes) then Err (File (LineLength 0))
    else if length bytes == 0 then Err (File (Misplaced 1))
    else lines begun 0 (parted 10 bytes)

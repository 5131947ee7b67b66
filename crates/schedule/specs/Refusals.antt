-- The file's refusals: the number, the line and the place of each case. Their layer is `file`.
use Rattle.std.specs.Prelude.{ℕ}
use Rattle.schedule.specs.declared.refusal.FileRefusal.{FileRefusal}
use Rattle.schedule.specs.declared.refusal.FileRefusal.TheVariants.{LineLength, UnknownWord, FieldCount, BadField, Misplaced}

abbrev pub number_of : FileRefusal → ℕ
number_of (LineLength line) = 15
number_of (UnknownWord line) = 16
number_of (FieldCount line) = 16
number_of (BadField line place) = 16
number_of (Misplaced line) = 17

abbrev pub line_of : FileRefusal → ℕ
line_of (LineLength line) = line
line_of (UnknownWord line) = line
line_of (FieldCount line) = line
line_of (BadField line place) = line
line_of (Misplaced line) = line

-- the field, the word being 1; 0 where the refusal is of the whole line
abbrev pub place_of : FileRefusal → ℕ
place_of (LineLength line) = 0
place_of (UnknownWord line) = 1
place_of (FieldCount line) = 0
place_of (BadField line place) = place
place_of (Misplaced line) = 0

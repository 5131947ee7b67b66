-- The fields of a line that are left to read.
use Rattle.std.specs.Prelude.{ℕ, List}
use Rattle.schedule.specs.declared.fields.Fields.{Fields}
use Rattle.schedule.specs.Parts.{later}

abbrev pub left : Fields → List (List ℕ)
left fields = later 9 fields.bytes.now

-- Lists of numbers, one for each console, read at every index, so that statements need no width.
-- Index c, from 0, stands for the console c + 1.
use Rattle.std.specs.Prelude.{ℕ, List, slice_index}

-- the number that stands at index c, or 0 beyond the end
abbrev pub at : List ℕ → ℕ → ℕ
at xs c = slice_index xs c

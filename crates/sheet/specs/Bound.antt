-- The bound on a line that contracts cite: it equals the code's MAX_TEXT, or nothing is proved.
use Rattle.std.specs.Prelude.{ℕ}

-- the most bytes of a line that is made
abbrev pub max_text : ℕ
max_text = 64

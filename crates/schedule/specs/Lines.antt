-- What a line of a schedule is.
use Rattle.std.specs.Prelude.{◌≡◌, ℕ, ◌≤◌, List, ◌∷◌, ◌++◌, length}
use Rattle.schedule.specs.Parts.{before}

-- the most bytes of a line, its line feed not counted
abbrev pub longest_line : ℕ
longest_line = 512

-- a line: bytes with no line feed, at most 512 of them, that a line feed ends; rest is what is left of the input behind it
pub record IsLine (input line rest : List ℕ) : Type 0 where
  pub ended : input ≡ line ++ (10 ∷ rest)
  pub one : before 10 line ≡ line
  pub short : length line ≤ longest_line

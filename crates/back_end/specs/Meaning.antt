-- What a back end means: all that its callers know of it. Index c of a list stands for the console c + 1.
use Rattle.std.specs.Prelude.{ℕ, List}

pub record Meaning : Type 0 where
  -- the number of consoles, and how many of them may fall
  pub n : ℕ
  pub t : ℕ
  -- the running set
  pub running : ℕ
  -- what each console entered the start with, 0 for one that did not run then
  pub entries : List ℕ
  -- the rounds since the start
  pub rounds : ℕ
  -- the verdict of each console, 0 for none
  pub verdicts : List ℕ
  -- how many of the last rounds, one after the other, were steady
  pub steady : ℕ

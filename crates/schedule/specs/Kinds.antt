-- The kinds of line: what a line is by its first word.
use Rattle.std.specs.Prelude.{◌≡◌, ℕ, true, List, ◌++◌, Some, None, codes, Option}
use Rattle.schedule.specs.declared.line.Line.{Line}
use Rattle.schedule.specs.declared.line.Line.TheVariants.{Rig, Press, Round, Close}
use Rattle.schedule.specs.Parts.{starts}

-- the line is the word and then the fields, each with a tab before it
pub record Begins (word line fields : List ℕ) : Type 0 where
  pub whole : line ≡ word ++ fields
  pub apart : starts 9 fields ≡ true

-- a line of no kind begins with none of the four words
pub record Unknown (line : List ℕ) : Type 0 where
  pub no_rig : (fields : List ℕ) → Begins (codes "rig") line fields → ⊥
  pub no_press : (fields : List ℕ) → Begins (codes "press") line fields → ⊥
  pub no_round : (fields : List ℕ) → Begins (codes "round") line fields → ⊥
  pub no_close : (fields : List ℕ) → Begins (codes "close") line fields → ⊥

-- the line with its number, taken apart by its first word
abbrev pub Apart : List ℕ → ℕ → Option Line → Type 0
Apart line k (Some (Rig fields number)) = Begins (codes "rig") line fields.bytes.now × (number ≡ k)
Apart line k (Some (Press fields number)) = Begins (codes "press") line fields.bytes.now × (number ≡ k)
Apart line k (Some (Round fields number)) = Begins (codes "round") line fields.bytes.now × (number ≡ k)
Apart line k (Some (Close fields number)) = Begins (codes "close") line fields.bytes.now × (number ≡ k)
Apart line k None = Unknown line

-- How the values of fields are written, and the law that ties writing to reading: what is written reads as the value again, and nothing else does.
use Rattle.std.specs.Prelude.{◌≡◌, ℕ, zero, suc, ◌+◌, ◌/◌, ◌%◌, ◌^◌, ◌<◌, ◌≤◌, if◌then◌else◌, List, [], ◌∷◌, ◌++◌, Some, codes, decimal, Option, nat_lt}
use Rattle.orders.specs.declared.Cue.{Cue}
use Rattle.orders.specs.declared.FirstPress.{FirstPress}
use Rattle.schedule.specs.declared.said.ProposalKind.{ProposalKind}
use Rattle.schedule.specs.declared.said.ProposalKind.TheVariants.{Cue as OfCues, First}
use Rattle.schedule.specs.declared.said.BackEndKind.{BackEndKind}
use Rattle.schedule.specs.declared.said.BackEndKind.TheVariants.{Leader, Third}
use Rattle.schedule.specs.Numbers.{number_said, set_digits, set_said}
use Rattle.schedule.specs.Values.{cue_said, first_said, kind_said, back_end_said}

-- the byte that stands for a digit below 16
abbrev pub digit_byte : ℕ → ℕ
digit_byte d = if nat_lt d 10 then 48 + d else 87 + d

-- a number below 16 ^ k in k hexadecimal digits
abbrev pub hexadecimal : ℕ → ℕ → List ℕ
hexadecimal zero n = []
hexadecimal (suc k) n = digit_byte (n / 16 ^ k) ∷ hexadecimal k (n % 16 ^ k)

abbrev pub set_text : ℕ → List ℕ
set_text s = hexadecimal set_digits s

abbrev pub cue_text : Cue → List ℕ
cue_text c = decimal c.0

abbrev pub first_press_text : FirstPress → List ℕ
first_press_text p = decimal p.tick ++ (58 ∷ decimal p.cue)

abbrev pub kind_text : ProposalKind → List ℕ
kind_text OfCues = codes "cue"
kind_text First = codes "first"

abbrev pub back_end_text : BackEndKind → List ℕ
back_end_text Leader = codes "leader"
back_end_text Third = codes "third"

-- of the values in range: the text of one reads as it, and only that text does
pub record OneText {V : Type 0} (range : V → Type 0) (text : V → List ℕ) (read : List ℕ → Option V) : Type 0 where
  pub back : (v : V) → range v → read (text v) ≡ Some v
  pub only : (s : List ℕ) (v : V) → read s ≡ Some v → range v × (s ≡ text v)

-- each field has one text for each value
pub record FieldTexts : Type 0 where
  pub numbers : (least most : ℕ) → most < 2 ^ 64 → OneText (λ v. (least ≤ v) × (v ≤ most)) decimal (number_said least most)
  pub sets : OneText (λ s. s < 16 ^ set_digits) set_text set_said
  pub cues : OneText (λ c. c.0 < 2 ^ 32) cue_text cue_said
  pub first_presses : OneText (λ p. (p.tick < 2 ^ 32) × (p.cue < 2 ^ 32)) first_press_text first_said
  pub kinds : OneText (λ k. Unit {0}) kind_text kind_said
  pub back_ends : OneText (λ k. Unit {0}) back_end_text back_end_said

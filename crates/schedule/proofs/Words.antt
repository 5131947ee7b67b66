-- A line taken apart by its first word, and what the definition of its kind says of it.
use Rattle.std.proofs.Common.{◌≡◌, ℕ, true, false, ◌⊎◌, List, ◌++◌, None, codes, sym, refl, ap, ◌∙◌, inl, inr}
use Rattle.std.proofs.lemmas.Bool.{cases_Bool}
use Rattle.schedule.specs.Parts.{before, onward}
use Rattle.schedule.specs.Values.{same}
use Rattle.schedule.specs.Kinds.{Begins, Unknown}
use Rattle.schedule.specs.Reading.{kind_of}
use Rattle.schedule.proofs.Parted.{before_onward, starts_onward}
use Rattle.schedule.proofs.Same.{same_true}

-- a line of no kind
pub unknown : (line : List ℕ) → Unknown line → kind_of (before 9 line) ≡ None
unknown line h =
    let differs = λ (w : List ℕ) (none : (fields : List ℕ) → Begins w line fields → ⊥). other w none (cases_Bool (same (before 9 line) w)) in
    rw (differs (codes "rig") h.no_rig, differs (codes "press") h.no_press, differs (codes "round") h.no_round, differs (codes "close") h.no_close) refl
  where
    other : (w : List ℕ) → ((fields : List ℕ) → Begins w line fields → ⊥) → (same (before 9 line) w ≡ true) ⊎ (same (before 9 line) w ≡ false) → same (before 9 line) w ≡ false
    other w none (inl e) =
        absurd (none (onward 9 line) (record { whole = sym (before_onward 9 line) ∙ ap (λ (t : List ℕ). t ++ onward 9 line) (same_true (before 9 line) w e); apart = starts_onward 9 line }))
    other w none (inr e) = e

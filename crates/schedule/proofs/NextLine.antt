-- What a cut at the first line feed tells of the next line.
use Rattle.std.proofs.Common.{◌≡◌, ℕ, ◌-◌, ◌≤◌, List, [], ◌∷◌, ◌++◌, length, get_or, take, drop, sym, refl, ap, ◌∙◌, arith}
use Rattle.std.proofs.lemmas.List.{take_rest}
use Rattle.schedule.specs.Parts.{before, onward}
use Rattle.schedule.specs.Lines.{IsLine, longest_line}
use Rattle.schedule.proofs.Parted.{before_onward, before_twice, cut_at}

-- the cut gives a line, and what is behind its line feed
pub is_line : (s line rest : List ℕ) → line ≡ before 10 s → rest ≡ onward 10 s → 1 ≤ length rest → get_or rest 0 0 ≡ 10 → length line ≤ longest_line →
    IsLine s line (take (length rest - 1) (drop 1 rest))
is_line s line rest e f l h k = record {
  ended = sym (before_onward 10 s) ∙ (λ j. sym e j ++ (sym f ∙ feed rest l h) j);
  one = ap (before 10) e ∙ before_twice 10 s ∙ sym e;
  short = k;
}
  where
    feed : (r : List ℕ) → 1 ≤ length r → get_or r 0 0 ≡ 10 → r ≡ 10 ∷ take (length r - 1) (drop 1 r)
    feed [] l h = absurd (omega arith)
    feed (b ∷ r) l h = λ j. h j ∷ sym (take_rest (b ∷ r) 1) j

-- wherever there is a line, the cut finds it
pub one_line : (s line rest a b : List ℕ) → line ≡ before 10 s → rest ≡ onward 10 s → IsLine s a b → (1 ≤ length rest) × (get_or rest 0 0 ≡ 10) × (length line ≤ longest_line)
one_line s line rest a b e f h =
    let c = cut_at 10 a (10 ∷ b) h.one refl in
    let r : rest ≡ 10 ∷ b = f ∙ ap (onward 10) h.ended ∙ c.1 in
    (omega (arith, ap length r), ap (λ (t : List ℕ). get_or t 0 0) r, omega (arith, h.short, ap length (e ∙ ap (before 10) h.ended ∙ c.0)))

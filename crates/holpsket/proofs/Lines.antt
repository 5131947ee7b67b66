-- The steps of reading a schedule line by line.
use Rattle.std.proofs.Common.{◌≡◌, ℕ, suc, ◌+◌, ◌<◌, ◌≤◌, false, eqb, ltb, leb, List, [], ◌∷◌, ◌++◌, length, Bor, Some, None, Ok, Err, Option, Result, subst, sym, refl, ap, ◌∙◌, inl, inr, add-one, arith}
use Rattle.std.specs.Option.{is_some}
use Rattle.std.proofs.lemmas.List.{length-append}
use Rattle.std.proofs.lemmas.Bool.{cases_Bool, cond-true, cond-false, ne_eqb, leb-true, le-leb, le-ltb, eqb-true, false≢true}
use Rattle.schedule.specs.declared.refusal.FileRefusal.TheVariants.{LineLength}
use Rattle.schedule.specs.declared.read.Reading.{Reading}
use Rattle.schedule.specs.Parts.{before, onward, parted, later, starts}
use Rattle.schedule.specs.Lines.{IsLine, longest_line}
use Rattle.schedule.specs.Reading.{begun}
use Rattle.schedule.proofs.Parted.{parted_cut, cut_at, before_onward, before_twice, starts_onward}
use Rattle.holpsket.specs.declared.stop.Stop.{Stop}
use Rattle.holpsket.specs.declared.stop.Stop.TheVariants.{File}
use Rattle.holpsket.specs.Through.{left, read_on, lines, read_through, longest_schedule}

parted_line : (s line rest : List ℕ) → IsLine s line rest → parted 10 s ≡ line ∷ parted 10 rest
parted_line s line rest h =
    let cut = cut_at 10 line (10 ∷ rest) h.one refl in
    ap (parted 10) h.ended ∙ parted_cut 10 (line ++ (10 ∷ rest)) ∙ (λ j. cut.0 j ∷ later 10 (cut.1 j))

module _ (st : Reading) (line : ℕ) where
  pub lines_none : lines st line (parted 10 []) ≡ Ok line
  unfolding lines
  lines_none = refl

  -- a line, and then the others
  pub lines_more : (s bytes rest : List ℕ) → IsLine s bytes rest → lines st line (parted 10 s) ≡ read_on (left st (suc line) bytes) (suc line) (λ next k. lines next k (parted 10 rest))
  unfolding lines
  lines_more s bytes rest h =
      ap (lines st line) (parted_line s bytes rest h) ∙ go (parted 10 rest) (parted_cut 10 rest)
    where
      go : (ps : List (List ℕ)) → ps ≡ before 10 rest ∷ later 10 (onward 10 rest) → lines st line (bytes ∷ ps) ≡ read_on (left st (suc line) bytes) (suc line) (λ next k. lines next k ps)
      go [] e = absurd (let z : ◌≡◌ {A = ℕ} 0 (suc (length (later 10 (onward 10 rest)))) = ap length e in omega arith)
      go (p ∷ ps) e = cond-true (leb (length bytes) longest_line) _ _ (le-leb (length bytes) longest_line h.short)

  -- bytes that begin with no line
  pub lines_bad : (s : List ℕ) → 0 < length s → ((bytes rest : List ℕ) → IsLine s bytes rest → ⊥) → lines st line (parted 10 s) ≡ Err (File (LineLength (line + 1)))
  unfolding lines
  lines_bad s some none = ap (lines st line) (parted_cut 10 s) ∙ go (onward 10 s) refl ∙ ap (λ (k : ℕ). Err (File (LineLength k))) (sym (add-one line))
    where
      longer : (rest : List ℕ) → onward 10 s ≡ 10 ∷ rest → length (before 10 s) ≤ longest_line → ⊥
      longer rest e l = none (before 10 s) rest (record { ended = sym (before_onward 10 s) ∙ ap (λ (t : List ℕ). before 10 s ++ t) e; one = before_twice 10 s; short = l })

      feed : (b : ℕ) (rest : List ℕ) → onward 10 s ≡ b ∷ rest → b ≡ 10
      feed b rest e = eqb-true b 10 (sym (ap (starts 10) e) ∙ starts_onward 10 s)

      long : (b : ℕ) (rest : List ℕ) → onward 10 s ≡ b ∷ rest → leb (length (before 10 s)) longest_line ≡ false
      long b rest e =
          elim (cases_Bool (leb (length (before 10 s)) longest_line)) [
            | inl l ↦ absurd (longer rest (e ∙ ap (λ (c : ℕ). c ∷ rest) (feed b rest e)) (leb-true _ _ l))
            | inr l ↦ l
          ]

      behind : (b : ℕ) (rest : List ℕ) → b ≡ 10 → later 10 (b ∷ rest) ≡ before 10 rest ∷ later 10 (onward 10 rest)
      behind b rest e = ap (λ (c : ℕ). later 10 (c ∷ rest)) e ∙ parted_cut 10 rest

      go : (t : List ℕ) → onward 10 s ≡ t → lines st line (before 10 s ∷ later 10 (onward 10 s)) ≡ Err (File (LineLength (suc line)))
      go [] e =
          ap (λ (t : List ℕ). lines st line (before 10 s ∷ later 10 t)) e
          ∙ cond-false (eqb (length (before 10 s)) 0) _ _ (ne_eqb (length (before 10 s)) 0 (λ z. omega (arith, ap length (before_onward 10 s), ap (λ (t : List ℕ). length (before 10 s ++ t)) e, length-append (before 10 s) [])))
      go (b ∷ rest) e =
          ap (λ (t : List ℕ). lines st line (before 10 s ∷ later 10 t)) e
          ∙ ap (λ (ps : List (List ℕ)). lines st line (before 10 s ∷ ps)) (behind b rest (feed b rest e))
          ∙ cond-false (leb (length (before 10 s)) longest_line) _ _ (long b rest e)

  -- the same, by what the line leaves
  pub lines_next : (s bytes rest : List ℕ) (next : Reading) → IsLine s bytes rest → Ok next ≡ left st (line + 1) bytes → lines st line (parted 10 s) ≡ lines next (line + 1) (parted 10 rest)
  lines_next s bytes rest next h e =
      lines_more s bytes rest h
      ∙ ap (λ (k : ℕ). read_on (left st k bytes) k (λ st k. lines st k (parted 10 rest))) (sym (add-one line))
      ∙ ap (λ (r : Result Reading Stop). read_on r (line + 1) (λ st k. lines st k (parted 10 rest))) (sym e)

  pub lines_stop : (s bytes rest : List ℕ) (stop : Stop) → IsLine s bytes rest → Err stop ≡ left st (line + 1) bytes → lines st line (parted 10 s) ≡ Err stop
  lines_stop s bytes rest stop h e =
      lines_more s bytes rest h
      ∙ ap (λ (k : ℕ). read_on (left st k bytes) k (λ st k. lines st k (parted 10 rest))) (sym (add-one line))
      ∙ ap (λ (r : Result Reading Stop). read_on r (line + 1) (λ st k. lines st k (parted 10 rest))) (sym e)

-- a line takes a byte at least
pub line_takes : (s line rest : List ℕ) → IsLine s line rest → length rest < length s
line_takes s line rest h = omega (arith, ap length h.ended, length-append line (10 ∷ rest))

-- the answer for the whole schedule
pub through : (s : List ℕ) (r : Result ℕ Stop) → length s ≤ longest_schedule → 0 < length s → lines begun 0 (parted 10 s) ≡ r → r ≡ read_through s
through s r small some e =
    sym (cond-false (ltb longest_schedule (length s)) _ _ (le-ltb longest_schedule (length s) small)
    ∙ cond-false (eqb (length s) 0) _ _ (ne_eqb (length s) 0 (λ z. omega arith)) ∙ e)

-- what `next_line` answers
abbrev pub Next : List ℕ → Option (Bor (List ℕ) × Bor (List ℕ)) → Type 0
Next input r = elim r [ Some p ↦ IsLine input p.0.now p.1.now | None ↦ ((line rest : List ℕ) → IsLine input line rest → ⊥) ]

pub next_some : (input : List ℕ) (r : Option (Bor (List ℕ) × Bor (List ℕ))) (p : Bor (List ℕ) × Bor (List ℕ)) → Next input r → r ≡ Some p → IsLine input p.0.now p.1.now
next_some input r p h e = subst (Next input) e h

pub next_none : (input : List ℕ) (r : Option (Bor (List ℕ) × Bor (List ℕ))) → Next input r → false ≡ is_some r → (line rest : List ℕ) → IsLine input line rest → ⊥
next_none input (Some p) h e = absurd (false≢true e)
next_none input None h e = h

-- Lines that are printed one after the other: what is left to print gives the whole.
use Rattle.std.proofs.Common.{◌≡◌, ℕ, ◌+◌, ◌≤◌, Bool, true, false, cond, ◌&&◌, leb, ◌⊎◌, List, [], ◌∷◌, ◌++◌, length, Ok, Err, Result, sym, refl, ap, ◌∙◌, inl, inr, append_assoc, add-zero, add_assoc, arith}
use Rattle.std.specs.List.{concat}
use Rattle.std.proofs.lemmas.List.{length-append}
use Rattle.std.proofs.lemmas.Bool.{cases_Bool, cond-true, cond-false, and_parts, and_from, and_left, leb-true, le-leb, false≢true}
use Rattle.sheet.specs.declared.printer.NoRoom.{NoRoom}
use Rattle.sheet.specs.Printing.{fit, all_fit, put, print_answer, final}
use Rattle.sheet.proofs.Puts.{put_none, length-put, put-put}

-- ---- which lines fit

module _ (cap : ℕ) where
  here : (len : ℕ) (l : List ℕ) (ls : List (List ℕ)) → leb (len + length l) cap ≡ true → fit cap len (l ∷ ls) ≡ l ++ fit cap (len + length l) ls
  here len l ls h = cond-true (leb (len + length l) cap) _ _ h

  used : (len : ℕ) (l : List ℕ) (ls : List (List ℕ)) → leb (len + length l) cap ≡ true →
      len + length l + length (fit cap (len + length l) ls) ≡ len + length (fit cap len (l ∷ ls))
  used len l ls h = omega (arith, ap length (here len l ls h), length-append l (fit cap (len + length l) ls))

  -- lines behind lines that all fit
  pub fit_more : (len : ℕ) (ls more : List (List ℕ)) → all_fit cap len ls ≡ true →
      fit cap len (ls ++ more) ≡ fit cap len ls ++ fit cap (len + length (fit cap len ls)) more
  fit_more len [] more h = ap (λ (n : ℕ). fit cap n more) (sym (add-zero len))
  fit_more len (l ∷ ls) more h =
      let both = and_parts (leb (len + length l) cap) (all_fit cap (len + length l) ls) h in
      here len l (ls ++ more) both.0
      ∙ ap (λ (t : List ℕ). l ++ t) (fit_more (len + length l) ls more both.1)
      ∙ sym (append_assoc l (fit cap (len + length l) ls) _)
      ∙ (λ j. sym (here len l ls both.0) j ++ fit cap (used len l ls both.0 j) more)

  pub all_fit_more : (len : ℕ) (ls more : List (List ℕ)) → all_fit cap len ls ≡ true →
      all_fit cap len (ls ++ more) ≡ all_fit cap (len + length (fit cap len ls)) more
  all_fit_more len [] more h = ap (λ (n : ℕ). all_fit cap n more) (sym (add-zero len))
  all_fit_more len (l ∷ ls) more h =
      let both = and_parts (leb (len + length l) cap) (all_fit cap (len + length l) ls) h in
      ap (λ (b : Bool). b && all_fit cap (len + length l) (ls ++ more)) both.0
      ∙ all_fit_more (len + length l) ls more both.1
      ∙ ap (λ (n : ℕ). all_fit cap n more) (used len l ls both.0)

  -- lines behind a line that does not fit
  pub fit_stop : (len : ℕ) (ls more : List (List ℕ)) → all_fit cap len ls ≡ false →
      (fit cap len (ls ++ more) ≡ fit cap len ls) × (all_fit cap len (ls ++ more) ≡ false)
  fit_stop len [] more h = absurd (false≢true (sym h))
  fit_stop len (l ∷ ls) more h = go (cases_Bool (leb (len + length l) cap)) (λ e. fit_stop (len + length l) ls more e)
    where
      go : (leb (len + length l) cap ≡ true) ⊎ (leb (len + length l) cap ≡ false) →
          (all_fit cap (len + length l) ls ≡ false → (fit cap (len + length l) (ls ++ more) ≡ fit cap (len + length l) ls) × (all_fit cap (len + length l) (ls ++ more) ≡ false)) →
          (fit cap len (l ∷ (ls ++ more)) ≡ fit cap len (l ∷ ls)) × (all_fit cap len (l ∷ (ls ++ more)) ≡ false)
      go (inl t) rest =
          let r = rest (sym (ap (λ (b : Bool). b && all_fit cap (len + length l) ls) t) ∙ h) in (
            here len l (ls ++ more) t ∙ ap (λ (s : List ℕ). l ++ s) r.0 ∙ sym (here len l ls t),
            ap (λ (b : Bool). b && all_fit cap (len + length l) (ls ++ more)) t ∙ r.1,
          )
      go (inr f) rest = (cond-false (leb (len + length l) cap) _ _ f ∙ sym (cond-false (leb (len + length l) cap) _ _ f), and_left (leb (len + length l) cap) _ f)

  -- what is printed stays within the buffer
  pub fit_room : (len : ℕ) (ls : List (List ℕ)) → len ≤ cap → len + length (fit cap len ls) ≤ cap
  fit_room len [] h = omega arith
  fit_room len (l ∷ ls) h =
      elim (cases_Bool (leb (len + length l) cap)) [
        | inl t ↦ omega (arith, used len l ls t, fit_room (len + length l) ls (leb-true (len + length l) cap t))
        | inr f ↦ omega (arith, ap length (cond-false (leb (len + length l) cap) (l ++ fit cap (len + length l) ls) [] f))
      ]

  pub all_room : (len : ℕ) (l : List ℕ) (ls : List (List ℕ)) → all_fit cap len (l ∷ ls) ≡ true → len + length (fit cap len (l ∷ ls)) ≤ cap
  all_room len l ls h =
      let t = (and_parts (leb (len + length l) cap) (all_fit cap (len + length l) ls) h).0 in
      fit_room len (l ∷ ls) (omega (arith, leb-true (len + length l) cap t))

  -- lines that are not too long all fit
  pub fit_whole : (len : ℕ) (ls : List (List ℕ)) → len + length (concat ls) ≤ cap → (all_fit cap len ls ≡ true) × (fit cap len ls ≡ concat ls)
  fit_whole len [] h = (refl, refl)
  fit_whole len (l ∷ ls) h =
      let n = length-append l (concat ls) in
      let t : leb (len + length l) cap ≡ true = le-leb (len + length l) cap (omega arith) in
      let r = fit_whole (len + length l) ls (omega arith) in
      (and_from (leb (len + length l) cap) _ t r.0, here len l ls t ∙ ap (λ (s : List ℕ). l ++ s) r.1)

-- ---- what printing comes to

-- whether all lines fit, how many bytes are used then, and what the buffer holds
unfoldable pub outcome : List ℕ → ℕ → List (List ℕ) → (Bool × ℕ) × List ℕ
outcome xs len ls = ((all_fit (length xs) len ls, len + length (fit (length xs) len ls)), put xs len (fit (length xs) len ls))

pub outcome_none : (xs : List ℕ) (len : ℕ) → outcome xs len [] ≡ ((true, len), xs)
unfolding outcome
outcome_none xs len = λ j. ((true, add-zero len j), put_none xs len j)

pub outcome_more : (xs : List ℕ) (len : ℕ) (ls more : List (List ℕ)) → all_fit (length xs) len ls ≡ true →
    outcome xs len (ls ++ more) ≡ outcome (put xs len (fit (length xs) len ls)) (len + length (fit (length xs) len ls)) more
unfolding outcome
outcome_more xs len [] more h = λ j. outcome (sym (put_none xs len) j) (sym (add-zero len) j) more
outcome_more xs len (l ∷ ls) more h =
    let F = fit (length xs) len (l ∷ ls) in
    let r : len + length F ≤ length xs = all_room (length xs) len l ls h in
    let cap : length xs ≡ length (put xs len F) = sym (length-put xs len F r) in
    let G : ℕ → List ℕ = λ n. fit n (len + length F) more in
    let e = fit_more (length xs) len (l ∷ ls) more h in
    (λ j. ((all_fit_more (length xs) len (l ∷ ls) more h j, len + length (e j)), put xs len (e j)))
    ∙ (λ j. ((all_fit (length xs) (len + length F) more, (ap (λ (n : ℕ). len + n) (length-append F (G (length xs))) ∙ sym (add_assoc len (length F) (length (G (length xs))))) j), sym (put-put xs len F r (G (length xs))) j))
    ∙ (λ j. ((all_fit (cap j) (len + length F) more, len + length F + length (G (cap j))), put (put xs len F) (len + length F) (G (cap j))))

pub outcome_stop : (xs : List ℕ) (len : ℕ) (ls more : List (List ℕ)) → all_fit (length xs) len ls ≡ false →
    outcome xs len (ls ++ more) ≡ ((false, len + length (fit (length xs) len ls)), put xs len (fit (length xs) len ls))
unfolding outcome
outcome_stop xs len ls more h =
    let e = fit_stop (length xs) len ls more h in
    λ j. ((e.1 j, len + length (e.0 j)), put xs len (e.0 j))

-- the same with an answer

pub final_none : (xs : List ℕ) (len number : ℕ) → final xs len [] number ≡ ((number, len), xs)
final_none xs len number = λ j. ((number, add-zero len j), put_none xs len j)

pub final_more : (xs : List ℕ) (len : ℕ) (ls more : List (List ℕ)) (number : ℕ) → all_fit (length xs) len ls ≡ true →
    final xs len (ls ++ more) number ≡ final (put xs len (fit (length xs) len ls)) (len + length (fit (length xs) len ls)) more number
unfolding outcome
final_more xs len ls more number h = λ j. let o = outcome_more xs len ls more h j in ((cond o.0.0 number 18, o.0.1), o.1)

pub final_stop : (xs : List ℕ) (len : ℕ) (ls more : List (List ℕ)) (number : ℕ) → all_fit (length xs) len ls ≡ false →
    final xs len (ls ++ more) number ≡ ((18, len + length (fit (length xs) len ls)), put xs len (fit (length xs) len ls))
unfolding outcome
final_stop xs len ls more number h = λ j. let o = outcome_stop xs len ls more h j in ((cond o.0.0 number 18, o.0.1), o.1)

-- ---- calls that print

-- a call that printed these lines: its answer, and what it left of the buffer
pub record Printed (xs : List ℕ) (len : ℕ) (ls : List (List ℕ)) (r : Result ℕ NoRoom) (ys : List ℕ) : Type 0 where
  pub answers : r ≡ print_answer (length xs) len ls
  pub leaves : ys ≡ put xs len (fit (length xs) len ls)

-- what comes to the same is printed the same
pub printed_as : {xs xs' ys : List ℕ} {len len' : ℕ} {ls ls' : List (List ℕ)} {r : Result ℕ NoRoom} →
    outcome xs len ls ≡ outcome xs' len' ls' → Printed xs len ls r ys → Printed xs' len' ls' r ys
unfolding outcome
printed_as e p = record {
  answers = p.answers ∙ (λ j. cond (e j).0.0 (Ok (e j).0.1) (Err (record { len = (e j).0.1 })));
  leaves = p.leaves ∙ (λ j. (e j).1);
}

pub printed_none : (xs : List ℕ) (len : ℕ) → Printed xs len [] (Ok len) xs
printed_none xs len = record { answers = λ j. Ok (sym (add-zero len) j); leaves = sym (put_none xs len) }

-- by the answer all fit, or not
pub ok_fits : (xs : List ℕ) (len : ℕ) (ls : List (List ℕ)) (x : ℕ) → Ok x ≡ print_answer (length xs) len ls →
    (all_fit (length xs) len ls ≡ true) × (x ≡ len + length (fit (length xs) len ls))
ok_fits xs len ls x e = elim (cases_Bool (all_fit (length xs) len ls)) [ inl t ↦ (t, grind arith) | inr f ↦ absurd (grind arith) ]

pub err_fits : (xs : List ℕ) (len : ℕ) (ls : List (List ℕ)) (x : NoRoom) → Err x ≡ print_answer (length xs) len ls → all_fit (length xs) len ls ≡ false
err_fits xs len ls x e = elim (cases_Bool (all_fit (length xs) len ls)) [ inl t ↦ absurd (grind arith) | inr f ↦ f ]

-- lines that were printed, and others behind
pub printed_more : {xs ys : List ℕ} {len x : ℕ} (ls more : List (List ℕ)) → Printed xs len ls (Ok x) ys → outcome ys x more ≡ outcome xs len (ls ++ more)
printed_more {xs} {ys} {len} {x} ls more p =
    let f = ok_fits xs len ls x p.answers in
    (λ j. outcome (p.leaves j) (f.1 j) more) ∙ sym (outcome_more xs len ls more f.0)

pub printed_stop : {xs ys : List ℕ} {len : ℕ} {x : NoRoom} (ls more : List (List ℕ)) → Printed xs len ls (Err x) ys → Printed xs len (ls ++ more) (Err x) ys
unfolding outcome
printed_stop {xs} {ys} {len} {x} ls more p =
    let f = err_fits xs len ls x p.answers in
    let o = outcome_stop xs len ls more f in
    record {
      answers =
          p.answers
          ∙ cond-false (all_fit (length xs) len ls) _ _ f
          ∙ sym (λ j. cond (o j).0.0 (Ok (o j).0.1) (Err (record { len = (o j).0.1 })));
      leaves = p.leaves ∙ sym (λ j. (o j).1);
    }

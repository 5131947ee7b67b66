-- Equal byte strings.
use Rattle.std.proofs.Common.{◌≡◌, ℕ, ◌+◌, Bool, true, false, ◌&&◌, eqb, ◌⊎◌, List, [], ◌∷◌, length, get_or, sym, refl, ap, ◌∙◌, inl, inr, add-one, arith}
use Rattle.std.proofs.lemmas.Bool.{cases_Bool, eqb-true, eq-eqb, false≢true, cond-true, and_right}
use Rattle.std.proofs.lemmas.Bool.Decides.{nat_tests}
use Rattle.schedule.specs.Values.{same}

pub same_refl : (s : List ℕ) → same s s ≡ true
same_refl [] = refl
same_refl (b ∷ bs) = cond-true (eqb b b) _ _ (eq-eqb b b refl) ∙ same_refl bs

pub same_true : (s t : List ℕ) → same s t ≡ true → s ≡ t
same_true [] [] e = refl
same_true [] (c ∷ cs) e = absurd (false≢true e)
same_true (b ∷ bs) [] e = absurd (false≢true e)
same_true (b ∷ bs) (c ∷ cs) e = go (same_true bs cs) (cases_Bool (eqb b c))
  where
    go : (same bs cs ≡ true → bs ≡ cs) → (eqb b c ≡ true) ⊎ (eqb b c ≡ false) → b ∷ bs ≡ c ∷ cs
    go more (inl q) = λ j. eqb-true b c q j ∷ more (rw q at e) j
    go more (inr q) = absurd (false≢true (rw q at e))

-- whether the bytes of the word stand from i on
abbrev pub stands : List ℕ → ℕ → List ℕ → Bool
stands [] i s = true
stands (b ∷ bs) i s = eqb (get_or s i 0) b && stands bs (i + 1) s

stands_cons : (w : List ℕ) (i b : ℕ) (s : List ℕ) → stands w (i + 1) (b ∷ s) ≡ stands w i s
stands_cons [] i b s = refl
stands_cons (c ∷ w) i b s = rw (stands_cons w (i + 1) b s, add-one) refl

-- the same bytes: as many, and each the same
pub same_stands : (s w : List ℕ) → same s w ≡ (eqb (length s) (length w) && stands w 0 s)
same_stands [] [] = refl
same_stands [] (c ∷ w) = grind (arith, nat_tests)
same_stands (b ∷ s) [] = grind (arith, nat_tests)
same_stands (b ∷ s) (c ∷ w) =
    let long : eqb (length (b ∷ s)) (length (c ∷ w)) ≡ eqb (length s) (length w) = grind (arith, nat_tests) in
    elim (cases_Bool (eqb b c)) [
      | inl e ↦ rw (e, long) (same_stands s w ∙ ap (λ (t : Bool). eqb (length s) (length w) && t) (sym (stands_cons w 0 b s)))
      | inr e ↦ rw (e) (sym (and_right (eqb (length (b ∷ s)) (length (c ∷ w))) _ refl))
    ]

-- The laws of `some` and `foremost`.
use Rattle.std.proofs.Common.{◌≡◌, ℕ, zero, suc, ◌<◌, ◌≤◌, Bool, true, false, not, ◌&&◌, eqb, ltb, sym, ap, ◌∙◌, inl, inr, arith}
use Rattle.std.proofs.lemmas.Bool.{cases_Bool, eqb-true, eq-eqb, not-true, not-false, and_parts, and_from, ltb-true, ltb-false, both_ways}
use Rattle.console_sets.specs.Sets.{member, lowest}
use Rattle.console_sets.proofs.Lowest.{find, lowest_zero, lowest_is, lowest_some, zero-lowest}
use Rattle.front.specs.Searches.{some, ahead, first, foremost}

module _ (p : ℕ → Bool) (n : ℕ) where
  pub some_false : some p n ≡ false → (c : ℕ) → c < n → p c ≡ false
  some_false e = lowest_zero p n (eqb-true (lowest p n) 0 (not-false (eqb (lowest p n) 0) e))

  pub false_some : ((c : ℕ) → c < n → p c ≡ false) → some p n ≡ false
  false_some h = ap not (eq-eqb (lowest p n) 0 (zero-lowest p n h))

  pub some_true : some p n ≡ true → (c : ℕ) × (c < n) × (p c ≡ true)
  some_true e = elim (find p n) [ inl m ↦ m | inr none ↦ absurd (both_ways (some p n) (false_some none) e) ]

  pub true_some : (c : ℕ) → c < n → p c ≡ true → some p n ≡ true
  true_some c l e = elim (cases_Bool (some p n)) [ inl h ↦ h | inr h ↦ absurd (both_ways (p c) (some_false h c l) e) ]

module _ (n : ℕ) (rank : ℕ → ℕ) (authors : ℕ) where
  -- the foremost is of the set, and none of the set has a lower rank
  pub foremost_is : (a : ℕ) → foremost n rank authors ≡ suc a
      → (a < n) × (member authors a ≡ true) × ((b : ℕ) → b < n → member authors b ≡ true → rank a ≤ rank b)
  foremost_is a e =
      let q = lowest_is (first n rank authors) n a e in
      let h = and_parts (member authors a) (not (some (ahead rank authors a) n)) q.1 in
      let none = some_false (ahead rank authors a) n (not-true (some (ahead rank authors a) n) h.1) in (
        q.0,
        h.0,
        λ b l m. ltb-false (rank b) (rank a) (sym (ap (λ (x : Bool). x && ltb (rank b) (rank a)) m) ∙ none b l),
      )

  -- where the set has a member, none of it precedes some member: go from each to one that precedes it, whose rank is lower
  first_some : (k a : ℕ) → rank a < k → a < n → member authors a ≡ true → (d : ℕ) × (d < n) × (first n rank authors d ≡ true)
  first_some zero a low l e = absurd (omega arith)
  first_some (suc k) a low l e =
      elim (find (ahead rank authors a) n) [
        | inl b ↦
            let h = and_parts (member authors b.0) (ltb (rank b.0) (rank a)) b.2 in
            first_some k b.0 (omega (arith, ltb-true (rank b.0) (rank a) h.1)) b.1 h.0
        | inr none ↦
            (a, l, and_from (member authors a) (not (some (ahead rank authors a) n)) e (ap not (false_some (ahead rank authors a) n none)))
      ]

  -- so there is a foremost
  pub foremost_some : (c : ℕ) → c < n → member authors c ≡ true → (a : ℕ) × (foremost n rank authors ≡ suc a)
  foremost_some c l e =
      let d = first_some (suc (rank c)) c (omega arith) l e in
      lowest_some (first n rank authors) n d.0 d.1 d.2

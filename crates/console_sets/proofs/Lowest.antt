-- The laws of `lowest`: what its answer says of a test, at any number of consoles.
use Rattle.std.proofs.Common.{◌≡◌, ℕ, zero, suc, ◌<◌, Bool, true, false, cond, eqb, Some, ◌⊎◌, sym, refl, ap, ◌∙◌, inl, inr, arith}
use Rattle.std.proofs.lemmas.Bool.{cases_Bool, cases_eq, cases_order, eq-eqb, ne_eqb, cond-true, cond-false, both_ways}
use Rattle.console_sets.specs.Sets.{console_of, lowest}

-- 0, or one more than a number
zero_or : (m : ℕ) → (m ≡ 0) ⊎ ((k : ℕ) × (m ≡ suc k))
zero_or zero = inl refl
zero_or (suc k) = inr (k, refl)

module _ (p : ℕ → Bool) where
  lowest_none : lowest p 0 ≡ 0
  unfolding lowest
  lowest_none = refl

  lowest-suc : (n : ℕ) → lowest p (suc n) ≡ cond (eqb (lowest p n) 0) (cond (p n) (suc n) 0) (lowest p n)
  unfolding lowest
  lowest-suc n = refl

  lowest_first : (n : ℕ) → lowest p n ≡ 0 → lowest p (suc n) ≡ cond (p n) (suc n) 0
  lowest_first n e = lowest-suc n ∙ cond-true (eqb (lowest p n) 0) _ _ (eq-eqb (lowest p n) 0 e)

  lowest_stays : (n k : ℕ) → lowest p n ≡ suc k → lowest p (suc n) ≡ suc k
  lowest_stays n k e = lowest-suc n ∙ cond-false (eqb (lowest p n) 0) _ _ (ne_eqb (lowest p n) 0 (λ z. omega arith)) ∙ e

  -- where the answer is 0, none passes
  pub lowest_zero : (n : ℕ) → lowest p n ≡ 0 → (c : ℕ) → c < n → p c ≡ false
  lowest_zero zero e c l = absurd (omega arith)
  lowest_zero (suc n) e c l =
      elim (zero_or (lowest p n)) [
        | inr k ↦ absurd (omega (arith, lowest_stays n k.0 k.1))
        | inl z ↦
            elim (cases_Bool (p n)) [
              | inl t ↦ absurd (omega (arith, lowest_first n z ∙ cond-true (p n) _ _ t))
              | inr f ↦ elim (cases_eq c n) [ inl s ↦ ap p s ∙ f | inr s ↦ lowest_zero n z c (omega arith) ]
            ]
      ]

  -- any other answer is the number of the lowest that passes
  pub lowest_is : (n c : ℕ) → lowest p n ≡ suc c → (c < n) × (p c ≡ true) × ((d : ℕ) → d < c → p d ≡ false)
  lowest_is zero c e = absurd (omega (arith, lowest_none))
  lowest_is (suc n) c e =
      elim (zero_or (lowest p n)) [
        | inr k ↦
            let s : k.0 ≡ c = omega (arith, lowest_stays n k.0 k.1) in
            let h = lowest_is n c (k.1 ∙ ap suc s) in
            (omega (arith, h.0), h.1, h.2)
        | inl z ↦
            elim (cases_Bool (p n)) [
              | inr f ↦ absurd (omega (arith, lowest_first n z ∙ cond-false (p n) _ _ f))
              | inl t ↦
                  let s : n ≡ c = omega (arith, lowest_first n z ∙ cond-true (p n) _ _ t) in
                  (omega arith, ap p (sym s) ∙ t, λ d l. lowest_zero n z d (omega arith))
            ]
      ]

  -- the other way round
  pub zero-lowest : (n : ℕ) → ((c : ℕ) → c < n → p c ≡ false) → lowest p n ≡ 0
  zero-lowest n h =
      elim (zero_or (lowest p n)) [
        | inl z ↦ z
        | inr k ↦ let q = lowest_is n k.0 k.1 in absurd (both_ways (p k.0) (h k.0 q.0) q.1)
      ]

  pub is_lowest : (n c : ℕ) → c < n → p c ≡ true → ((d : ℕ) → d < c → p d ≡ false) → lowest p n ≡ suc c
  is_lowest n c l e below =
      elim (zero_or (lowest p n)) [
        | inl z ↦ absurd (both_ways (p c) (lowest_zero n z c l) e)
        | inr k ↦
            let q = lowest_is n k.0 k.1 in
            elim (cases_order k.0 c) [
              | inl s ↦ k.1 ∙ ap suc s
              | inr (inl s) ↦ absurd (both_ways (p k.0) (below k.0 s) q.1)
              | inr (inr s) ↦ absurd (both_ways (p c) (q.2 c s) e)
            ]
      ]

  -- some index below n passes, or none does
  pub find : (n : ℕ) → ((c : ℕ) × (c < n) × (p c ≡ true)) ⊎ ((c : ℕ) → c < n → p c ≡ false)
  find n =
      elim (zero_or (lowest p n)) [
        | inl z ↦ inr (lowest_zero n z)
        | inr k ↦ let q = lowest_is n k.0 k.1 in inl (k.0, q.0, q.1)
      ]

  -- where one passes there is a lowest
  pub lowest_some : (n c : ℕ) → c < n → p c ≡ true → (d : ℕ) × (lowest p n ≡ suc d)
  lowest_some n c l e =
      elim (zero_or (lowest p n)) [ inl z ↦ absurd (both_ways (p c) (lowest_zero n z c l) e) | inr k ↦ k ]

-- two tests that agree below n
pub lowest_same : (p q : ℕ → Bool) (n : ℕ) → ((c : ℕ) → c < n → p c ≡ q c) → lowest p n ≡ lowest q n
lowest_same p q n h =
    elim (zero_or (lowest q n)) [
      | inl z ↦ zero-lowest p n (λ c l. h c l ∙ lowest_zero q n z c l) ∙ sym z
      | inr k ↦
          let m = lowest_is q n k.0 k.1 in
          is_lowest p n k.0 m.0 (h k.0 m.0 ∙ m.1) (λ d l. h d (omega (arith, m.0)) ∙ m.2 d l) ∙ sym k.1
    ]

-- ---- answers as Options

pub console_some : (c : ℕ) → console_of (suc c) ≡ Some (suc c)
console_some c = cond-false (eqb (suc c) 0) _ _ (ne_eqb (suc c) 0 (λ z. omega arith))

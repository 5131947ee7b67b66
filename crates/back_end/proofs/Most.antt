-- The laws of `largest`.
use Rattle.std.proofs.Common.{◌≡◌, ℕ, zero, suc, ◌+◌, ◌<◌, ◌≤◌, max, sym, refl, ap, ◌∙◌, ap₂, inl, inr, add-one, arith}
use Rattle.std.proofs.lemmas.Bool.{cases_eq, cases_lt}
use Rattle.back_end.specs.Largest.{largest}

-- the two clauses
pub largest_none : (f : ℕ → ℕ) → largest f 0 ≡ 0
unfolding largest
largest_none f = refl

largest-suc : (f : ℕ → ℕ) (n : ℕ) → largest f (suc n) ≡ max (largest f n) (f n)
unfolding largest
largest-suc f n = refl

-- one turn of a loop that looks for it
pub largest_step : (f : ℕ → ℕ) (n v : ℕ) → v ≡ f n → largest f (n + 1) ≡ max (largest f n) v
largest_step f n v e = ap (largest f) (add-one n) ∙ largest-suc f n ∙ ap (max (largest f n)) (sym e)

-- none is larger
pub largest_le : (f : ℕ → ℕ) (n c : ℕ) → c < n → f c ≤ largest f n
largest_le f zero c l = absurd (omega arith)
largest_le f (suc n) c l =
    elim (cases_eq c n) [
      | inl e ↦ omega (arith, largest-suc f n, ap f e)
      | inr e ↦ omega (arith, largest-suc f n, largest_le f n c (omega arith))
    ]

-- it is one of them
pub largest_is : (f : ℕ → ℕ) (n : ℕ) → 0 < n → (c : ℕ) × (c < n) × (f c ≡ largest f n)
largest_is f zero l = absurd (omega arith)
largest_is f (suc n) l =
    elim (cases_lt (f n) (largest f n)) [
      | inr h ↦ (n, omega arith, omega (arith, largest-suc f n))
      | inl h ↦
          let m = largest_is f n (some h) in
          (m.0, omega (arith, m.1), omega (arith, m.2, largest-suc f n))
    ]
  where
    some : f n < largest f n → 0 < n
    some h =
        elim (cases_eq n 0) [
          | inl e ↦ absurd (omega (arith, ap (largest f) e, largest_none f))
          | inr e ↦ omega arith
        ]

-- two measures that agree below n
pub largest_same : (f g : ℕ → ℕ) (n : ℕ) → ((c : ℕ) → c < n → f c ≡ g c) → largest f n ≡ largest g n
largest_same f g zero h = largest_none f ∙ sym (largest_none g)
largest_same f g (suc n) h =
    largest-suc f n ∙ ap₂ max (largest_same f g n (λ c l. h c (omega arith))) (h n (omega arith)) ∙ sym (largest-suc g n)

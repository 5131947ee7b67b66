-- The laws of `set_of`: its members are those of its test.
use Rattle.std.proofs.Common.{◌≡◌, ℕ, zero, suc, ◌+◌, ◌*◌, ◌^◌, ◌<◌, Bool, true, false, cond, ◌&&◌, ◌||◌, eqb, ltb, sym, refl, ap, ◌∙◌, inl, inr, one-mul, add-one, arith}
use lib.Bits.{bit_or, or_shifted_r}
use Rattle.std.proofs.lemmas.Bool.{cases_Bool}
use Rattle.std.proofs.lemmas.Bool.Decides.{nat_tests}
use Rattle.console_sets.specs.Sets.{one, member, joined, set_of}
use Rattle.console_sets.proofs.Digits.{member_none, member-joined}

module _ (p : ℕ → Bool) where
  pub set_of_none : set_of p 0 ≡ 0
  unfolding set_of
  set_of_none = refl

  set_of-suc : (n : ℕ) → set_of p (suc n) ≡ one (p n) * 2 ^ n + set_of p n
  unfolding set_of
  set_of-suc n = refl

  pub set_of_lt : (n : ℕ) → set_of p n < 2 ^ n
  set_of_lt zero = omega (arith, set_of_none)
  set_of_lt (suc n) =
      elim (cases_Bool (p n)) [
        | inl e ↦ omega (arith, set_of_lt n, set_of-suc n, ap (λ (b : Bool). one b * 2 ^ n) e)
        | inr e ↦ omega (arith, set_of_lt n, set_of-suc n, ap (λ (b : Bool). one b * 2 ^ n) e)
      ]

  -- an index that passes is one more member, and any other is none
  set_of_yes : (n : ℕ) → p n ≡ true → set_of p (suc n) ≡ joined (set_of p n) n
  set_of_yes n e =
      let h : set_of p (suc n) ≡ 1 * 2 ^ n + set_of p n = set_of-suc n ∙ ap (λ (b : Bool). one b * 2 ^ n + set_of p n) e in
      h ∙ sym (or_shifted_r 1 n (set_of p n) (set_of_lt n)) ∙ ap (bit_or (set_of p n)) (one-mul (2 ^ n))

  set_of_no : (n : ℕ) → p n ≡ false → set_of p (suc n) ≡ set_of p n
  set_of_no n e = omega (arith, set_of-suc n, ap (λ (b : Bool). one b * 2 ^ n) e)

  -- one turn of a loop that makes the set
  pub set_of_step : (n : ℕ) (b : Bool) → b ≡ p n → set_of p (n + 1) ≡ cond b (joined (set_of p n) n) (set_of p n)
  set_of_step n true e = ap (set_of p) (add-one n) ∙ set_of_yes n (sym e)
  set_of_step n false e = ap (set_of p) (add-one n) ∙ set_of_no n (sym e)

  pub member-set_of : (n c : ℕ) → member (set_of p n) c ≡ (ltb c n && p c)
  member-set_of zero c = ap (λ (s : ℕ). member s c) set_of_none ∙ member_none c ∙ grind (arith, nat_tests)
  member-set_of (suc n) c =
      elim (cases_Bool (p n)) [
        | inl e ↦
            ap (λ (s : ℕ). member s c) (set_of_yes n e) ∙ member-joined (set_of p n) n c ∙ ap (λ (b : Bool). b || eqb c n) (member-set_of n c)
            ∙ grind (arith, nat_tests)
        | inr e ↦ ap (λ (s : ℕ). member s c) (set_of_no n e) ∙ member-set_of n c ∙ grind (arith, nat_tests)
      ]

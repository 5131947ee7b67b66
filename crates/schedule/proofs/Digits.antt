-- Digits by place: the steps of reading them from the left, and how large a number they write.
use Rattle.std.proofs.Common.{◌≡◌, ℕ, suc, ◌+◌, ◌*◌, ◌^◌, ◌<◌, ◌≤◌, true, false, cond, ◌&&◌, not, eqb, ltb, ◌⊎◌, List, [], ◌∷◌, length, get_or, Some, None, Option, sym, refl, ap, ◌∙◌, inl, inr, mul-le-mul_right, mul_assoc, add-mul, mul-le-mul_left, one-mul, zero-mul, mul-one, arith}
use Rattle.std.specs.List.{list_all}
use native.Mathlib.Nat.{pow-succ', one-le-pow, pow-zero}
use Rattle.std.proofs.lemmas.List.{length-map}
use Rattle.std.proofs.lemmas.Bool.{and_parts, and_right, ltb-true, ltb-false, le-ltb, lt-ltb, cases_Bool, cond-true, cond-false}
use Rattle.std.proofs.lemmas.Bool.Decides.{nat_tests}
use Rattle.schedule.proofs.Tries.{tried, tried_some, tried_none}
use Rattle.schedule.specs.Numbers.{is_decimal, digit, is_digit, value}

pub value_cons : (base b : ℕ) (bs : List ℕ) → value base (b ∷ bs) ≡ digit b * base ^ length bs + value base bs
value_cons base b bs = ap (λ (k : ℕ). digit b * base ^ k + value base bs) (length-map bs digit)

-- what digits write behind the number v, from the left
pub value_behind : (base v b : ℕ) (bs : List ℕ) → v * base ^ suc (length bs) + value base (b ∷ bs) ≡ (v * base + digit b) * base ^ length bs + value base bs
value_behind base v b bs =
    let P : ℕ = base ^ length bs in
    omega (arith, value_cons base b bs, add-mul (v * base) (digit b) P, mul_assoc v base P, ap (λ (x : ℕ). v * x) (pow-succ' base (length bs)))

-- it is at least that number
pub value_from : (base v : ℕ) (bs : List ℕ) → 1 ≤ base → v ≤ v * base ^ length bs + value base bs
value_from base v bs l = omega (arith, mul-le-mul_left {m = 1} {n = base ^ length bs} v (one-le-pow (length bs) base l), mul-one v)

-- and below the base to the power of the count of digits
pub value_lt : (base : ℕ) (bs : List ℕ) → list_all (is_digit base) bs ≡ true → value base bs < base ^ length bs
value_lt base [] e = rw (pow-zero base) (omega arith)
value_lt base (b ∷ bs) e =
    let P : ℕ = base ^ length bs in
    let both = and_parts (is_digit base b) (list_all (is_digit base) bs) e in
    let d : digit b + 1 ≤ base = omega (arith, ltb-true (digit b) base (and_parts _ (ltb (digit b) base) both.0).1) in
    omega (arith, value_cons base b bs, value_lt base bs both.1, add-mul (digit b) 1 P, one-mul P, mul-le-mul_right P d, pow-succ' base (length bs))

-- a number with one digit more behind it
abbrev pub behind : ℕ → ℕ → ℕ → Option ℕ
behind base v b = cond (is_digit base b && ltb (v * base + digit b) (2 ^ 32)) (Some (v * base + digit b)) None

-- reading digits behind the number v, from the left
pub tried_digits : (base v : ℕ) (bs : List ℕ) → 1 ≤ base → v < 2 ^ 32 →
    tried (behind base) v bs ≡ cond (list_all (is_digit base) bs && ltb (v * base ^ length bs + value base bs) (2 ^ 32)) (Some (v * base ^ length bs + value base bs)) None
tried_digits base v [] l f =
    let e : v * base ^ 0 + value base [] ≡ v = rw (pow-zero base) (omega (arith, mul-one v)) in
    rw (e) (sym (cond-true (ltb v (2 ^ 32)) _ _ (lt-ltb v (2 ^ 32) f)))
tried_digits base v (b ∷ bs) l f = go (λ q. tried_digits base (v * base + digit b) bs l (ltb-true (v * base + digit b) (2 ^ 32) q)) (cases_Bool (is_digit base b)) (cases_Bool (ltb (v * base + digit b) (2 ^ 32)))
  where
    whole : ℕ
    whole = v * base ^ suc (length bs) + value base (b ∷ bs)

    next : ℕ
    next = v * base + digit b

    go : (ltb next (2 ^ 32) ≡ true → tried (behind base) next bs ≡ cond (list_all (is_digit base) bs && ltb (next * base ^ length bs + value base bs) (2 ^ 32)) (Some (next * base ^ length bs + value base bs)) None) →
        (is_digit base b ≡ true) ⊎ (is_digit base b ≡ false) → (ltb next (2 ^ 32) ≡ true) ⊎ (ltb next (2 ^ 32) ≡ false) →
        tried (behind base) v (b ∷ bs) ≡ cond (list_all (is_digit base) (b ∷ bs) && ltb whole (2 ^ 32)) (Some whole) None
    go more (inl p) (inl q) = tried_some (behind base) v next b bs (rw (p, q) refl) ∙ more q ∙ rw (p, value_behind base v b bs) refl
    go more (inl p) (inr q) =
        let big : ltb whole (2 ^ 32) ≡ false = le-ltb whole (2 ^ 32)
        (omega (arith, ltb-false (v * base + digit b) (2 ^ 32) q, value_from base (v * base + digit b) bs l, value_behind base v b bs)) in
        tried_none (behind base) v b bs (rw (p, q) refl) ∙ sym (cond-false _ _ _ (and_right (list_all (is_digit base) (b ∷ bs)) _ big))
    go more (inr p) q = tried_none (behind base) v b bs (rw (p) refl) ∙ sym (rw (p) refl)

pub digits_tried : (base : ℕ) (bs : List ℕ) → 1 ≤ base → tried (behind base) 0 bs ≡ cond (list_all (is_digit base) bs && ltb (value base bs) (2 ^ 32)) (Some (value base bs)) None
digits_tried base bs l =
    let e : 0 * base ^ length bs + value base bs ≡ value base bs = omega (arith, zero-mul (base ^ length bs)) in
    rw (← e) (tried_digits base 0 bs l (omega arith))

-- a set of consoles has few digits, so its number fits
pub set_fits : (s : List ℕ) (m : ℕ) → length s ≡ 4 → Some m ≡ cond (list_all (is_digit 16) s && ltb (value 16 s) (2 ^ 32)) (Some (value 16 s)) None → m < 2 ^ 16
set_fits s m l e =
    elim (cases_Bool (list_all (is_digit 16) s)) [
      | inl p ↦ let k : value 16 s < 16 ^ 4 = rw l at (value_lt 16 s p) in
          elim (cases_Bool (ltb (value 16 s) (2 ^ 32))) [ inl q ↦ let n : m ≡ value 16 s = grind arith in omega arith | inr q ↦ absurd (grind arith) ]
      | inr p ↦ absurd (grind arith)
    ]

pub set_bad : (s : List ℕ) → length s ≡ 4 → None ≡ cond (list_all (is_digit 16) s && ltb (value 16 s) (2 ^ 32)) (Some (value 16 s)) None → list_all (is_digit 16) s ≡ false
set_bad s l e =
    elim (cases_Bool (list_all (is_digit 16) s)) [
      | inl p ↦ let k : value 16 s < 16 ^ 4 = rw l at (value_lt 16 s p) in
          let q : ltb (value 16 s) (2 ^ 32) ≡ true = lt-ltb (value 16 s) (2 ^ 32) (omega arith) in absurd (grind arith)
      | inr p ↦ p
    ]

-- bytes are a decimal number: some digits, the first of them no `0` unless it stands alone
pub decimal_is : (s : List ℕ) → is_decimal s ≡ (ltb 0 (length s) && (not (eqb (get_or s 0 0) 48 && ltb 1 (length s)) && list_all (is_digit 10) s))
decimal_is [] = refl
decimal_is (b ∷ []) = grind (arith, nat_tests)
decimal_is (b ∷ (d ∷ bs)) = grind (arith, nat_tests)

-- A number's binary digits as a set: the members of what the operations on numbers give, and the count of ones.
use Rattle.std.proofs.Common.{◌≡◌, ℕ, zero, suc, ◌-◌, ◌/◌, ◌%◌, ◌^◌, ◌<◌, ◌≤◌, Bool, true, false, not, ◌&&◌, ◌||◌, eqb, ltb, sym, refl, ap, ◌∙◌, ap₂, inl, inr, lt_of_lt_of_le, div-one, one-add, arith, pow_pos, pow_mono, shr-shr}
use native.Mathlib.Nat.{zero-div, div_self, div-eq_of_lt}
use lib.Arith.{lt-one}
use lib.Bits.{bit_and, bit_or, bit_xor, and_shr, or_shr, xor_shr, and_mod, or_mod, xor_mod, and_le_l, and_le_r, xor_lt}
use lib.Count.{ones, ones_step}
use Rattle.std.proofs.lemmas.Bool.{ne_eqb, eq-eqb, cases_eq, cases_lt, lt-ltb, le-ltb, eqb-true, both_ways}
use Rattle.console_sets.specs.Sets.{one, count, member, all, inside, union, without, joined}
use Rattle.console_sets.proofs.Counting.{count_none, count_same, count_shift}

-- ---- one digit after the other

one_digit : (d : ℕ) → d < 2 → one (eqb d 1) ≡ d
one_digit zero l = refl
one_digit (suc zero) l = refl
one_digit (suc (suc d)) l = absurd (omega arith)

pub member-zero : (s : ℕ) → member s 0 ≡ eqb (s % 2) 1
member-zero s = ap (λ (x : ℕ). eqb (x % 2) 1) (div-one s)

pub member-suc : (s c : ℕ) → member (s / 2) c ≡ member s (suc c)
member-suc s c = ap (λ (x : ℕ). eqb (x % 2) 1) (shr-shr s 1 c ∙ ap (λ (x : ℕ). s / 2 ^ x) (one-add c))

-- the empty set
pub member_none : (c : ℕ) → member 0 c ≡ false
member_none c = ap (λ (x : ℕ). eqb (x % 2) 1) (zero-div (2 ^ c))

-- a set of indices below n has none from n on
pub member_above : (n s c : ℕ) → s < 2 ^ n → n ≤ c → member s c ≡ false
member_above n s c l h =
    let k : s < 2 ^ c = lt_of_lt_of_le l (pow_mono h) in
    ap (λ (x : ℕ). eqb (x % 2) 1) (div-eq_of_lt k)

-- sets with the same members are the same number
pub member_ext : (n a b : ℕ) → a < 2 ^ n → b < 2 ^ n → ((c : ℕ) → c < n → member a c ≡ member b c) → a ≡ b
member_ext zero a b ha hb h = omega arith
member_ext (suc n) a b ha hb h =
    let low : a % 2 ≡ b % 2 =
    sym (one_digit (a % 2) (omega arith)) ∙ ap one (sym (member-zero a) ∙ h 0 (omega arith) ∙ member-zero b) ∙ one_digit (b % 2) (omega arith) in
    let high : a / 2 ≡ b / 2 = member_ext n (a / 2) (b / 2) (omega arith) (omega arith)
    (λ c l. member-suc a c ∙ h (suc c) (omega arith) ∙ sym (member-suc b c)) in
    omega arith

-- what `count_ones` answers is how many members the set has
ones_none : ones 0 ≡ 0
unfolding ones
ones_none = refl

pub ones-count : (n s : ℕ) → s < 2 ^ n → ones s ≡ count (member s) n
ones-count zero s l = ap ones (lt-one l) ∙ ones_none ∙ sym (count_none (member s))
ones-count (suc n) s l =
    let ih : ones (s / 2) ≡ count (member (s / 2)) n = ones-count n (s / 2) (omega arith) in
    let same = count_same (member (s / 2)) (λ c. member s (suc c)) n (λ c k. member-suc s c) in
    let low : one (member s 0) ≡ s % 2 = ap one (member-zero s) ∙ one_digit (s % 2) (omega arith) in
    omega (arith, ones_step s, count_shift (member s) n)

-- ---- members of what an operation gives that acts on each digit for itself

module _ (f : ℕ → ℕ → ℕ) (g : Bool → Bool → Bool) (shr : (a b k : ℕ) → f a b / 2 ^ k ≡ f (a / 2 ^ k) (b / 2 ^ k))
    (low : (a b k : ℕ) → f a b % 2 ^ k ≡ f (a % 2 ^ k) (b % 2 ^ k)) (table : (x y : Bool) → eqb (f (one x) (one y)) 1 ≡ g x y) where
  member_by : (a b c : ℕ) → member (f a b) c ≡ g (member a c) (member b c)
  member_by a b c =
      ap (λ (x : ℕ). eqb x 1) (ap (λ (x : ℕ). x % 2) (shr a b c) ∙ low (a / 2 ^ c) (b / 2 ^ c) 1
      ∙ ap₂ f (sym (one_digit (a / 2 ^ c % 2) (omega arith))) (sym (one_digit (b / 2 ^ c % 2) (omega arith))))
      ∙ table (member a c) (member b c)

pub member_and : (a b c : ℕ) → member (bit_and a b) c ≡ (member a c && member b c)
member_and = member_by bit_and (λ x y. x && y) and_shr and_mod table
  where
    table : (x y : Bool) → eqb (bit_and (one x) (one y)) 1 ≡ (x && y)
    table true true = refl
    table true false = refl
    table false true = refl
    table false false = refl

pub member_union : (a b c : ℕ) → member (union a b) c ≡ (member a c || member b c)
member_union = member_by bit_or (λ x y. x || y) or_shr or_mod table
  where
    table : (x y : Bool) → eqb (bit_or (one x) (one y)) 1 ≡ (x || y)
    table true true = refl
    table true false = refl
    table false true = refl
    table false false = refl

pub member-without : (a b c : ℕ) → member (without a b) c ≡ (member a c && not (member b c))
member-without a b c =
    member_by bit_xor differs xor_shr xor_mod table a (bit_and a b) c
    ∙ ap (differs (member a c)) (member_and a b c) ∙ left (member a c) (member b c)
  where
    differs : Bool → Bool → Bool
    differs x y = (x && not y) || (not x && y)

    table : (x y : Bool) → eqb (bit_xor (one x) (one y)) 1 ≡ differs x y
    table true true = refl
    table true false = refl
    table false true = refl
    table false false = refl

    left : (x y : Bool) → differs x (x && y) ≡ (x && not y)
    left x y = grind arith

-- ---- one member, all of n, and the rest of n

member_same : (d : ℕ) → member (2 ^ d) d ≡ true
member_same d = ap (λ (x : ℕ). eqb (x % 2) 1) (div_self (pow_pos d))

member_other : (d c : ℕ) → (c ≡ d → ⊥) → member (2 ^ d) c ≡ false
member_other zero zero h = absurd (h refl)
member_other zero (suc c) h = sym (member-suc 1 c) ∙ member_none c
member_other (suc d) zero h =
    let even : 2 ^ suc d % 2 ≡ 0 = omega arith in
    member-zero (2 ^ suc d) ∙ ap (λ (x : ℕ). eqb x 1) even
member_other (suc d) (suc c) h =
    let half : 2 ^ suc d / 2 ≡ 2 ^ d = omega arith in
    sym (member-suc (2 ^ suc d) c) ∙ ap (λ (x : ℕ). member x c) half ∙ member_other d c (λ e. h (ap suc e))

pub member_single : (d c : ℕ) → member (2 ^ d) c ≡ eqb c d
member_single d c =
    elim (cases_eq c d) [
      | inl e ↦ rw e (member_same d ∙ sym (eq-eqb d d refl))
      | inr e ↦ member_other d c e ∙ sym (ne_eqb c d e)
    ]

pub member-joined : (s d c : ℕ) → member (joined s d) c ≡ (member s c || eqb c d)
member-joined s d c = member_union s (2 ^ d) c ∙ ap (λ (x : Bool). member s c || x) (member_single d c)

digit_not : (d : ℕ) → d < 2 → eqb (1 - d) 1 ≡ not (eqb d 1)
digit_not zero l = refl
digit_not (suc zero) l = refl
digit_not (suc (suc d)) l = absurd (omega arith)

pub member_rest : (n s c : ℕ) → s < 2 ^ n → c < n → member (all n - s) c ≡ not (member s c)
member_rest zero s c l h = absurd (omega arith)
member_rest (suc n) s zero l h =
    let low : (all (suc n) - s) % 2 ≡ 1 - s % 2 = omega arith in
    member-zero (all (suc n) - s) ∙ ap (λ (x : ℕ). eqb x 1) low ∙ digit_not (s % 2) (omega arith) ∙ ap not (sym (member-zero s))
member_rest (suc n) s (suc c) l h =
    let half : (all (suc n) - s) / 2 ≡ all n - s / 2 = omega arith in
    sym (member-suc (all (suc n) - s) c) ∙ ap (λ (x : ℕ). member x c) half ∙ member_rest n (s / 2) c (omega arith) (omega arith)
    ∙ ap not (member-suc s c)

pub member-all : (n c : ℕ) → member (all n) c ≡ ltb c n
member-all n c =
    let whole : all n ≡ all n - 0 = omega arith in
    elim (cases_lt c n) [
      | inl l ↦
          ap (λ (x : ℕ). member x c) whole ∙ member_rest n 0 c (omega (arith, pow_pos n)) l ∙ ap not (member_none c) ∙ sym (lt-ltb c n l)
      | inr l ↦ member_above n (all n) c (omega (arith, pow_pos n)) l ∙ sym (le-ltb c n l)
    ]

-- ---- one set inside another

lt_pow : (n : ℕ) → n < 2 ^ n
lt_pow zero = omega arith
lt_pow (suc n) = omega (arith, lt_pow n)

pub member-inside : (a b c : ℕ) → inside a b ≡ true → member a c ≡ true → member b c ≡ true
member-inside a b c h e =
    let both : (member a c && member b c) ≡ true = sym (member_and a b c) ∙ ap (λ (x : ℕ). member x c) (eqb-true (bit_and a b) a h) ∙ e in
    grind arith

pub inside_from : (a b : ℕ) → ((c : ℕ) → member a c ≡ true → member b c ≡ true) → inside a b ≡ true
inside_from a b h =
    eq-eqb (bit_and a b) a (member_ext a (bit_and a b) a (omega (arith, lt_pow a, and_le_l a b)) (lt_pow a)
    (λ c l. member_and a b c ∙ kept (member a c) (member b c) (h c)))
  where
    kept : (x y : Bool) → (x ≡ true → y ≡ true) → (x && y) ≡ x
    kept x y k = grind arith

-- ---- how large the numbers are

pub member_below : (n s c : ℕ) → s < 2 ^ n → member s c ≡ true → c < n
member_below n s c l e = elim (cases_lt c n) [ inl h ↦ h | inr h ↦ absurd (both_ways (member s c) (member_above n s c l h) e) ]

pub inside_lt : (n a b : ℕ) → inside a b ≡ true → b < 2 ^ n → a < 2 ^ n
inside_lt n a b h l = omega (arith, eqb-true (bit_and a b) a h, and_le_r a b)

pub inside-all : (n a : ℕ) → inside a (all n) ≡ true → a < 2 ^ n
inside-all n a h = inside_lt n a (all n) h (omega (arith, pow_pos n))

pub without_lt : (n a b : ℕ) → a < 2 ^ n → without a b < 2 ^ n
without_lt n a b l = xor_lt n a (bit_and a b) l (omega (arith, and_le_l a b))

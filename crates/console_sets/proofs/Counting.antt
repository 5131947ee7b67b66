-- The laws of `count`, at any number of consoles.
use Rattle.std.proofs.Common.{◌≡◌, ℕ, zero, suc, ◌+◌, ◌-◌, ◌<◌, ◌≤◌, Bool, true, false, not, ◌&&◌, ◌⊎◌, sym, refl, ap, ◌∙◌, ap₂, inl, inr, zero-add, add-one, arith}
use Rattle.std.proofs.lemmas.Bool.{false≢true, cases_eq, cases_lt, and_parts, not-true}
use Rattle.console_sets.specs.Sets.{one, count}
use Rattle.console_sets.proofs.Lowest.{find}

-- the two clauses of `count`
pub count_none : (p : ℕ → Bool) → count p 0 ≡ 0
unfolding count
count_none p = refl

pub count_more : (p : ℕ → Bool) (n : ℕ) → count p (suc n) ≡ one (p n) + count p n
unfolding count
count_more p n = refl

-- one turn of a loop that counts
pub count_step : (p : ℕ → Bool) (n : ℕ) (b : Bool) → b ≡ p n → count p (n + 1) ≡ count p n + one b
count_step p n b e = let h : one b ≡ one (p n) = ap one e in ap (count p) (add-one n) ∙ count_more p n ∙ omega arith

-- the first index apart
pub count_shift : (p : ℕ → Bool) (n : ℕ) → count p (suc n) ≡ one (p 0) + count (λ c. p (suc c)) n
count_shift p zero = omega (arith, count_more p 0, count_none p, count_none (λ c. p (suc c)))
count_shift p (suc n) = omega (arith, count_more p (suc n), count_shift p n, count_more (λ c. p (suc c)) n)

-- two tests that agree below n
pub count_same : (p q : ℕ → Bool) (n : ℕ) → ((c : ℕ) → c < n → p c ≡ q c) → count p n ≡ count q n
count_same p q zero h = count_none p ∙ sym (count_none q)
count_same p q (suc n) h =
    count_more p n ∙ ap₂ (λ (x y : ℕ). x + y) (ap one (h n (omega arith))) (count_same p q n (λ c l. h c (omega arith))) ∙ sym (count_more q n)

-- a test that passes nothing from m on
pub count_beyond : (p : ℕ → Bool) (m k : ℕ) → ((c : ℕ) → m ≤ c → p c ≡ false) → count p (m + k) ≡ count p m
count_beyond p m zero h = ap (count p) (omega arith)
count_beyond p m (suc k) h =
    let here : one (p (m + k)) ≡ 0 = ap one (h (m + k) (omega arith)) in
    let next : m + suc k ≡ suc (m + k) = omega arith in
    ap (count p) next ∙ count_more p (m + k) ∙ omega (arith, count_beyond p m k h)

-- below any two bounds from which on it passes nothing, a test counts the same
pub count_ends : (p : ℕ → Bool) (m n : ℕ) → ((c : ℕ) → m ≤ c → p c ≡ false) → ((c : ℕ) → n ≤ c → p c ≡ false) → count p m ≡ count p n
count_ends p m n hm hn =
    elim (cases_lt m n) [
      | inl l ↦ let e : m + (n - m) ≡ n = omega arith in sym (count_beyond p m (n - m) hm) ∙ ap (count p) e
      | inr l ↦ let e : m ≡ n + (m - n) = omega arith in ap (count p) e ∙ count_beyond p n (m - n) hn
    ]

-- inclusion
one_le : (a b : Bool) → (a ≡ true → b ≡ true) → one a ≤ one b
one_le a b h = grind arith

pub count_mono : (p q : ℕ → Bool) (n : ℕ) → ((c : ℕ) → c < n → p c ≡ true → q c ≡ true) → count p n ≤ count q n
count_mono p q zero h = omega (arith, count_none p)
count_mono p q (suc n) h =
    let ih : count p n ≤ count q n = count_mono p q n (λ c l. h c (omega arith)) in
    let here : one (p n) ≤ one (q n) = one_le (p n) (q n) (h n (omega arith)) in
    omega (arith, count_more p n, count_more q n)

-- a set within another that has a member more
pub count_strict : (p q : ℕ → Bool) (n : ℕ) → ((c : ℕ) → c < n → p c ≡ true → q c ≡ true)
    → (d : ℕ) → d < n → p d ≡ false → q d ≡ true → count p n < count q n
count_strict p q zero h d l e f = omega arith
count_strict p q (suc n) h d l e f =
    let below : (c : ℕ) → c < n → p c ≡ true → q c ≡ true = λ c k. h c (omega arith) in
    elim (cases_eq d n) [
      | inl s ↦
          let pn : one (p n) ≡ 0 = ap one (rw s at e) in
          let qn : one (q n) ≡ 1 = ap one (rw s at f) in
          omega (arith, count_more p n, count_more q n, count_mono p q n below)
      | inr s ↦
          omega (arith, count_more p n, count_more q n, count_strict p q n below d (omega arith) e f, one_le (p n) (q n) (h n (omega arith)))
    ]

-- of n indices, those in a set and those outside it
one_not : (b : Bool) → one b + one (not b) ≡ 1
one_not true = refl
one_not false = refl

pub count-not : (p : ℕ → Bool) (n : ℕ) → count p n + count (λ c. not (p c)) n ≡ n
count-not p zero = omega (arith, count_none p, count_none (λ c. not (p c)))
count-not p (suc n) = omega (arith, count_more p n, count_more (λ c. not (p c)) n, one_not (p n), count-not p n)

-- a set counts 0 exactly when it has no member
pub count_empty : (p : ℕ → Bool) (n : ℕ) → ((c : ℕ) → c < n → p c ≡ false) → count p n ≡ 0
count_empty p n h =
    let nobody : ℕ → Bool = λ c. false in
    count_same p nobody n h ∙ ap (count nobody) (sym (zero-add n)) ∙ count_beyond nobody 0 n (λ c l. refl) ∙ count_none nobody

pub count_pos : (p : ℕ → Bool) (n c : ℕ) → c < n → p c ≡ true → 0 < count p n
count_pos p n c l e = omega (arith, count_strict (λ d. false) p n (λ d k f. absurd (false≢true f)) c l refl e)

pub member_of_count : (p : ℕ → Bool) (n : ℕ) → 0 < count p n → (c : ℕ) × (c < n) × (p c ≡ true)
member_of_count p n l = elim (find p n) [ inl m ↦ m | inr none ↦ absurd (omega (arith, count_empty p n none)) ]

-- q has a member that p lacks, or lies within p
pub extra : (p q : ℕ → Bool) (n : ℕ)
    → ((c : ℕ) × (c < n) × (p c ≡ false) × (q c ≡ true)) ⊎ ((c : ℕ) → c < n → q c ≡ true → p c ≡ true)
extra p q n =
    elim (find (λ c. q c && not (p c)) n) [
      | inl m ↦
          let b : (q m.0 ≡ true) × (not (p m.0) ≡ true) = and_parts (q m.0) (not (p m.0)) m.2 in
          inl (m.0, m.1, not-true (p m.0) b.1, b.0)
      | inr none ↦ inr (λ c l e. kept (p c) (q c) (none c l) e)
    ]
  where
    kept : (a b : Bool) → (b && not a) ≡ false → b ≡ true → a ≡ true
    kept a b h e = grind arith

-- two sets that together count more than n share a member
pub count_and : (p q : ℕ → Bool) (n : ℕ) → count p n + count q n ≤ count (λ c. p c && q c) n + n
count_and p q zero = omega (arith, count_none p, count_none q)
count_and p q (suc n) =
    omega (arith, count_more p n, count_more q n, count_more (λ c. p c && q c) n, count_and p q n, both (p n) (q n))
  where
    both : (a b : Bool) → one a + one b ≤ one (a && b) + 1
    both a b = grind arith

pub shared : (p q : ℕ → Bool) (n : ℕ) → n < count p n + count q n → (c : ℕ) × (c < n) × (p c ≡ true) × (q c ≡ true)
shared p q n l =
    let m = member_of_count (λ c. p c && q c) n (omega (arith, count_and p q n)) in
    let b = and_parts (p m.0) (q m.0) m.2 in
    (m.0, m.1, b.0, b.1)

-- two sets with no member in common
pub count_apart : (p q : ℕ → Bool) (n : ℕ) → ((c : ℕ) → c < n → p c ≡ true → q c ≡ true → ⊥) → count p n + count q n ≤ n
count_apart p q n h =
    elim (cases_lt n (count p n + count q n)) [
      | inl l ↦ let m = shared p q n l in absurd (h m.0 m.1 m.2 m.3)
      | inr l ↦ l
    ]

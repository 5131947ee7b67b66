-- The first bad one of the fields of a round line: the fall set, and then the rows.
use Rattle.std.proofs.Common.{◌≡◌, ℕ, zero, suc, ◌+◌, ◌<◌, Bool, true, false, cond, eqb, List, [], ◌∷◌, length, Bor, drop, Some, None, Ok, Err, Option, Result, sym, refl, ap, ◌∙◌, one-add, ◌^◌, arith}
use native.Mathlib.Nat.{zero-div}
use Rattle.std.proofs.lemmas.List.{get_or-drop}
use Rattle.std.proofs.lemmas.Bool.{cond-true, cond-false, eq-eqb, ne_eqb}
use Rattle.console_sets.specs.Sets.{lowest, member}
use Rattle.console_sets.proofs.Lowest.{lowest_zero, lowest_is, zero-lowest, is_lowest}
use Rattle.std.specs.Option.{MatchOption, is_none, unwrap_or}
use Rattle.schedule.specs.declared.refusal.FileRefusal.{FileRefusal}
use Rattle.schedule.specs.declared.refusal.FileRefusal.TheVariants.{BadField}
use Rattle.schedule.specs.declared.said.RoundLine.{RoundLine}
use Rattle.schedule.specs.Numbers.{set_said}
use Rattle.schedule.specs.Values.{proposal_said}
use Rattle.schedule.specs.Said.{field, each_console, proposal_at, round_said}

-- the lowest of one more, from those behind the first
lowest_first : (p : ℕ → Bool) (n : ℕ) → p 0 ≡ true → lowest p (suc n) ≡ 1
lowest_first p n e = is_lowest p (suc n) 0 (omega arith) e (λ d l. absurd (omega arith))

lowest_behind : (p : ℕ → Bool) (n : ℕ) → p 0 ≡ false → lowest p (suc n) ≡ cond (eqb (lowest (λ c. p (suc c)) n) 0) 0 (suc (lowest (λ c. p (suc c)) n))
lowest_behind p n e = go (lowest (λ c. p (suc c)) n) refl
  where
    none : lowest (λ c. p (suc c)) n ≡ 0 → (c : ℕ) → c < suc n → p c ≡ false
    none z zero l = e
    none z (suc c) l = lowest_zero (λ k. p (suc k)) n z c (omega arith)

    before : (k : ℕ) → lowest (λ c. p (suc c)) n ≡ suc k → (d : ℕ) → d < suc k → p d ≡ false
    before k z zero l = e
    before k z (suc d) l = (lowest_is (λ c. p (suc c)) n k z).2 d (omega arith)

    go : (m : ℕ) → lowest (λ c. p (suc c)) n ≡ m → lowest p (suc n) ≡ cond (eqb (lowest (λ c. p (suc c)) n) 0) 0 (suc (lowest (λ c. p (suc c)) n))
    go zero z = zero-lowest p (suc n) (none z) ∙ sym (cond-true (eqb (lowest (λ c. p (suc c)) n) 0) _ _ (eq-eqb _ 0 z))
    go (suc k) z =
        let h = lowest_is (λ c. p (suc c)) n k z in
        is_lowest p (suc n) (suc k) (omega (arith, h.0)) h.1 (before k z)
        ∙ sym (cond-false (eqb (lowest (λ c. p (suc c)) n) 0) _ _ (ne_eqb _ 0 (λ y. omega arith)) ∙ ap suc z)

-- what a round line of n consoles says, by its fall set and what the walk over its rows answers
abbrev pub round_answer : ℕ → Option ℕ → Result (List ℕ) ℕ → Result RoundLine FileRefusal
round_answer line None r = Err (BadField line 2)
round_answer line (Some falls) (Ok rows) = Ok (record { falls = falls; rows = rows })
round_answer line (Some falls) (Err console) = Err (BadField line (console + 2))

-- what the walk over the rows answers
abbrev pub walk : ℕ → (ℕ → Option ℕ) → Result (List ℕ) ℕ
walk n row = cond (eqb (lowest (λ c. is_none (row c)) n) 0) (Ok (each_console n 0 row)) (Err (lowest (λ c. is_none (row c)) n))

-- the empty set has no member
no_member : (c : ℕ) → member 0 c ≡ false
no_member c = rw (zero-div (2 ^ c)) refl

module _ (n line : ℕ) (fs : List (List ℕ)) where
  -- the answer by the lowest bad field
  by_lowest : Option ℕ → List ℕ → ℕ → Result RoundLine FileRefusal
  by_lowest falls rows low = cond (eqb low 0) (Ok (record { falls = unwrap_or falls 0; rows = rows })) (Err (BadField line (suc low)))

  -- by the lowest bad row where the fall set is good
  by_row : (f : ℕ) (rows : List ℕ) (low m : ℕ) → low ≡ m →
      by_lowest (Some f) rows (cond (eqb low 0) 0 (suc low)) ≡ round_answer line (Some f) (cond (eqb low 0) (Ok rows) (Err low))
  unfolding by_lowest
  by_row f rows low zero e = ap (λ (m : ℕ). by_lowest (Some f) rows (cond (eqb m 0) 0 (suc m))) e ∙ sym (ap (λ (m : ℕ). round_answer line (Some f) (cond (eqb m 0) (Ok rows) (Err m))) e)
  by_row f rows low (suc k) e =
      let q : eqb low 0 ≡ false = ne_eqb low 0 (λ z. omega arith) in
      let s : suc (suc low) ≡ low + 2 = omega arith in
      ap (by_lowest (Some f) rows) (cond-false (eqb low 0) _ _ q)
      ∙ cond-false (eqb (suc low) 0) _ _ (ne_eqb (suc low) 0 (λ z. omega arith))
      ∙ ap (λ (m : ℕ). Err (BadField line m)) s
      ∙ sym (ap (round_answer line (Some f)) (cond-false (eqb low 0) _ _ q))

  pub round_is : n + 1 ≡ length fs → round_said n line fs ≡ round_answer line (set_said (field fs 0)) (walk n (λ c. set_said (field fs (suc c))))
  unfolding by_lowest
  round_is l = cond-true (eqb (length fs) (suc n)) _ _ (eq-eqb (length fs) (suc n) (omega arith)) ∙ go (set_said (field fs 0)) refl
    where
      go : (o : Option ℕ) → set_said (field fs 0) ≡ o →
          by_lowest (set_said (field fs 0)) (each_console n 0 (λ c. set_said (field fs (suc c)))) (lowest (λ i. is_none (set_said (field fs i))) (suc n))
          ≡ round_answer line (set_said (field fs 0)) (walk n (λ c. set_said (field fs (suc c))))
      go None e =
          (λ j. by_lowest (e j) (each_console n 0 (λ c. set_said (field fs (suc c)))) (lowest_first (λ i. is_none (set_said (field fs i))) n (ap is_none e) j))
          ∙ sym (ap (λ (o : Option ℕ). round_answer line o (walk n (λ c. set_said (field fs (suc c))))) e)
      go (Some f) e =
          (λ j. by_lowest (e j) (each_console n 0 (λ c. set_said (field fs (suc c)))) (lowest_behind (λ i. is_none (set_said (field fs i))) n (ap is_none e) j))
          ∙ by_row f (each_console n 0 (λ c. set_said (field fs (suc c)))) (lowest (λ c. is_none (set_said (field fs (suc c)))) n) (lowest (λ c. is_none (set_said (field fs (suc c)))) n) refl
          ∙ sym (ap (λ (o : Option ℕ). round_answer line o (walk n (λ c. set_said (field fs (suc c))))) e)

  -- the rows stand behind the fall set, and no console has fallen for them
  pub row_behind : (rs : List (List ℕ)) → rs ≡ drop 1 fs → walk n (proposal_at (proposal_said 0 set_said) 0 rs) ≡ walk n (λ c. set_said (field fs (suc c)))
  row_behind rs e = λ j. walk n (λ c. (ap (λ (b : Bool). proposal_said 0 set_said b (field rs c)) (no_member c)
      ∙ ap set_said (ap (λ (qs : List (List ℕ)). field qs c) e ∙ get_or-drop 1 fs c [] ∙ ap (field fs) (one-add c))) j)

-- the first field, if there is one, and those behind it
pub rest_is : (fs rest : List (List ℕ)) (r : Option (Bor (List ℕ))) → MatchOption r ((fs ≡ []) × (rest ≡ [])) (λ x. fs ≡ x.now ∷ rest) → rest ≡ drop 1 fs
rest_is fs rest None h = h.1 ∙ ap (drop 1) (sym h.0)
rest_is fs rest (Some x) h = ap (drop 1) (sym h)

pub first_is : (fs rest : List (List ℕ)) (r : Option (Bor (List ℕ))) → 0 < length fs → MatchOption r ((fs ≡ []) × (rest ≡ [])) (λ x. fs ≡ x.now ∷ rest) →
    (x : Bor (List ℕ)) × (r ≡ Some x) × (x.now ≡ field fs 0)
first_is fs rest None l h = absurd (omega (arith, ap length h.0))
first_is fs rest (Some x) l h = (x, refl, ap (λ (t : List (List ℕ)). field t 0) (sym h))

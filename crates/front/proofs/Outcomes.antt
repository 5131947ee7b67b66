-- What round t + 2 gives to a console, case by case.
use Rattle.std.proofs.Common.{◌≡◌, ℕ, suc, ◌-◌, ◌<◌, Bool, true, false, not, ◌&&◌, eqb, sym, ap, ◌∙◌, inl, inr, arith}
use Rattle.std.proofs.lemmas.Bool.{cases_Bool, cond-true, cond-false, and_parts, not-true, not-false, ne_eqb}
use Rattle.console_sets.specs.Sets.{member, lowest}
use Rattle.console_sets.proofs.Lowest.{lowest_is, lowest_some}
use Rattle.front.specs.declared.deciding.Outcome.TheVariants.{Decision, Entry}
use Rattle.front.specs.Consoles.{State}
use Rattle.front.specs.Searches.{some}
use Rattle.front.specs.Deciding.{present, hears_missing, hears_present, estimate_of, outcome_of}
use Rattle.front.proofs.Searches.{some_true, some_false}

-- the estimate of the lowest that passes a test is that of one that passes
lowest_estimate : (p : ℕ → Bool) (n : ℕ) (s : State) (c : ℕ) → c < n → p c ≡ true
    → (j : ℕ) × (j < n) × (p j ≡ true) × (estimate_of s (lowest p n) ≡ (s j).estimate)
lowest_estimate p n s c l e =
    let j = lowest_some p n c l e in
    let h = lowest_is p n j.0 j.1 in
    let less : lowest p n - 1 ≡ j.0 = omega (arith, j.1) in
    (j.0, h.0, h.1, cond-false (eqb (lowest p n) 0) _ _ (ne_eqb (lowest p n) 0 (λ z. omega (arith, j.1))) ∙ ap (λ (x : ℕ). (s x).estimate) less)

-- i decides on the new estimate of one of those that it heard, which are all present; or it heard of a missing one, and enters with a present one that it heard;
-- or it heard of no present one, and enters with its own number
pub data Given (n t row : ℕ) (s : State) (i : ℕ) : Type 0 where
  decides : (j : ℕ) → j < n → member row j ≡ true → ((k : ℕ) → k < n → member row k ≡ true → present t (s k) ≡ true)
      → outcome_of n t row s i ≡ Decision (s j).estimate → Given n t row s i
  enters : (j : ℕ) → j < n → member row j ≡ true → present t (s j) ≡ true
      → (k : ℕ) → k < n → member row k ≡ true → present t (s k) ≡ false
      → outcome_of n t row s i ≡ Entry (s j).estimate → Given n t row s i
  alone : ((k : ℕ) → k < n → member row k ≡ true → present t (s k) ≡ false) → outcome_of n t row s i ≡ Entry (suc i) → Given n t row s i

pub given : (n t row : ℕ) (s : State) (i c : ℕ) → c < n → member row c ≡ true → Given n t row s i
unfolding outcome_of
given n t row s i c l heard =
    elim (cases_Bool (some (hears_missing t row s) n)) [
      | inr all ↦
          let j = lowest_estimate (member row) n s c l heard in
          decides j.0 j.1 j.2
          (λ k lk m. not-false (present t (s k)) (sym (ap (λ (b : Bool). b && not (present t (s k))) m) ∙ some_false (hears_missing t row s) n all k lk))
          (cond-false _ _ _ all ∙ ap Decision j.3)
      | inl one ↦
          elim (cases_Bool (some (hears_present t row s) n)) [
            | inl here ↦
                let found = some_true (hears_present t row s) n here in
                let j = lowest_estimate (hears_present t row s) n s found.0 found.1 found.2 in
                let good = and_parts (member row j.0) (present t (s j.0)) j.2 in
                let k = some_true (hears_missing t row s) n one in
                let bad = and_parts (member row k.0) (not (present t (s k.0))) k.2 in
                enters j.0 j.1 good.0 good.1 k.0 k.1 bad.0 (not-true (present t (s k.0)) bad.1)
                (cond-true _ _ _ one ∙ ap Entry (cond-true _ _ _ here ∙ j.3))
            | inr none ↦
                alone (λ k lk m. sym (ap (λ (b : Bool). b && present t (s k)) m) ∙ some_false (hears_present t row s) n none k lk)
                (cond-true _ _ _ one ∙ ap Entry (cond-false _ _ _ none))
          ]
    ]

-- What one round after t + 2 does to the decisions, in any state.
use Rattle.std.proofs.Common.{◌≡◌, ℕ, ◌-◌, Bool, true, false, not, eqb, ◌≢◌, ◌⊎◌, List, sym, ap, ◌∙◌, inl, inr, arith}
use Rattle.std.proofs.lemmas.Bool.{cases_Bool, cases_eq, cond-true, cond-false, and_parts, not-true, eq-eqb, ne_eqb, eqb-false}
use Rattle.console_sets.specs.Sets.{member, lowest}
use Rattle.console_sets.proofs.Lowest.{lowest_is, lowest_some}
use Rattle.rounds.specs.Items.{at}
use Rattle.front.specs.declared.consoles.Console.{Console}
use Rattle.front.specs.Consoles.{State}
use Rattle.front.specs.Searches.{some}
use Rattle.front.proofs.Searches.{some_true}
use Rattle.rig.specs.Later.{tells, later, after_later}

-- a decision x is one that somebody had in the state s, or the verdict v
abbrev pub From : State → ℕ → ℕ → Type 0
From s v x = ((j : ℕ) × ((s j).decision ≢ 0) × (x ≡ (s j).decision)) ⊎ (x ≡ v)

module _ (n k completing : ℕ) (rows : List ℕ) (verdicts : ℕ → ℕ) (s : State) (c : ℕ) where
  -- who does not complete the round keeps what it has
  pub out : member completing c ≡ false → after_later n k completing rows verdicts s c ≡ s c
  unfolding after_later
  out m = cond-false (member completing c) _ _ m

  into : member completing c ≡ true → after_later n k completing rows verdicts s c ≡ later n k (at rows c) (verdicts c) s c
  unfolding after_later
  into m = cond-true (member completing c) _ _ m

  -- a decision stays
  pub stays : (s c).decision ≢ 0 → after_later n k completing rows verdicts s c ≡ s c
  stays had =
      elim (cases_Bool (member completing c)) [
        | inr m ↦ out m
        | inl m ↦ into m ∙ cond-true (not (eqb (s c).decision 0)) _ _ (ap not (ne_eqb (s c).decision 0 had))
      ]

  -- what one who completes the round has then
  turn : member completing c ≡ true → From s (verdicts c) (after_later n k completing rows verdicts s c).decision
  turn m =
      let row = at rows c in
      let test : ℕ → Bool = tells row s in
      let decision : Console → ℕ = λ x. x.decision in
      elim (cases_eq (s c).decision 0) [
        | inr had ↦ inl (c, had, ap decision (stays had))
        | inl z ↦
            let e = into m ∙ cond-false (not (eqb (s c).decision 0)) _ _ (ap not (eq-eqb (s c).decision 0 z)) in
            elim (cases_Bool (some test n)) [
              | inl h ↦
                  let d = some_true test n h in
                  let j = lowest_some test n d.0 d.1 d.2 in
                  let both = and_parts (member row j.0) (not (eqb (s j.0).decision 0)) (lowest_is test n j.0 j.1).1 in
                  let less : lowest test n - 1 ≡ j.0 = omega (arith, j.1) in
                  inl (
                    j.0,
                    eqb-false (s j.0).decision 0 (not-true (eqb (s j.0).decision 0) both.1),
                    ap decision (e ∙ cond-true (some test n) _ _ h) ∙ ap (λ (x : ℕ). (s x).decision) less,
                  )
              | inr h ↦
                  inr (elim (cases_eq (verdicts c) 0) [
                    | inl v ↦
                        ap decision (e ∙ cond-false (some test n) _ _ h ∙ cond-false (not (eqb (verdicts c) 0)) _ _ (ap not (eq-eqb (verdicts c) 0 v))) ∙ z ∙ sym v
                    | inr v ↦ ap decision (e ∙ cond-false (some test n) _ _ h ∙ cond-true (not (eqb (verdicts c) 0)) _ _ (ap not (ne_eqb (verdicts c) 0 v)))
                  ])
            ]
      ]

  -- every decision is one that somebody had, or the verdict
  pub comes_from : (after_later n k completing rows verdicts s c).decision ≢ 0 → From s (verdicts c) (after_later n k completing rows verdicts s c).decision
  comes_from has =
      elim (cases_Bool (member completing c)) [
        | inl m ↦ turn m
        | inr m ↦
            let e = ap (λ (x : Console). x.decision) (out m) in
            inl (c, (λ z. has (e ∙ z)), e)
      ]

  -- who completes the round and has a verdict has a decision
  pub takes : member completing c ≡ true → verdicts c ≢ 0 → (after_later n k completing rows verdicts s c).decision ≢ 0
  takes m v z = elim (turn m) [ inl w ↦ w.1 (sym w.2 ∙ z) | inr w ↦ v (sym w ∙ z) ]

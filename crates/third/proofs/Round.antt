-- A round of Third keeps what every state keeps.
use Rattle.std.proofs.Common.{◌≡◌, ℕ, ◌+◌, ◌*◌, ◌^◌, ◌<◌, ◌≤◌, Bool, true, false, cond, ◌&&◌, eqb, ◌≢◌, List, sym, refl, ap, ◌∙◌, subst, inl, inr, arith}
use Rattle.std.proofs.lemmas.Bool.{cases_Bool, cases_eq, and_left, and_right, and_from, eq-eqb, ne_eqb, cond-true, cond-false}
use Rattle.console_sets.specs.Sets.{member}
use Rattle.console_sets.proofs.Counting.{count_mono}
use Rattle.rounds.specs.Items.{at}
use Rattle.rounds.specs.Rounds.{completing, steady_round}
use Rattle.rounds.specs.Laws.{RoundOk}
use Rattle.rounds.proofs.Accepted.{steady_ok}
use Rattle.back_end.specs.Meaning.{Meaning}
use Rattle.back_end.specs.Calls.{Gained}
use Rattle.back_end.specs.Votes.{backing}
use Rattle.back_end.proofs.Ballots.{backer, voter, voted, votes_le, votes-all}
use Rattle.back_end.proofs.Next.{next}
use Rattle.third.specs.Rule.{poll, favourite, elected, ThirdRound}
use Rattle.third.specs.State.{Entered, Listed, Backed, Even, Settled, Keeps}
use Rattle.third.proofs.Choice.{Most, favourite_most, elected_many, many_elected, most_is}

-- a steady count that is not 0 was counted in a steady round, and one above 1 was not 0 before it
steady_of : (b : Bool) (steady : ℕ) → 0 < cond b (steady + 1) 0 → b ≡ true
steady_of true steady h = refl
steady_of false steady h = absurd (omega arith)

grown_of : (b : Bool) (steady : ℕ) → 1 < cond b (steady + 1) 0 → 0 < steady
grown_of true steady h = omega arith
grown_of false steady h = absurd (omega arith)

module _ (m : Meaning) (falls : ℕ) (rows estimates estimates' verdicts' : List ℕ) (within : m.running < 2 ^ m.n)
    (ok : RoundOk m.n m.t m.running m.rounds falls rows) (k : Keeps m estimates)
    (round : ThirdRound m.n (completing m.running falls) rows estimates m.verdicts estimates' verdicts') where
  abbrev completes : ℕ → Bool
  completes c = member (completing m.running falls) c

  -- ---- what stays, and what is chosen

  stays : (c : ℕ) → completes c ≡ false → at estimates' c ≡ at estimates c
  stays c e = round.estimates_are c ∙ cond-false (completes c) _ _ e

  chosen : (c : ℕ) → completes c ≡ true → at estimates' c ≡ favourite (poll m.n (at rows c) estimates) m.n
  chosen c e = round.estimates_are c ∙ cond-true (completes c) _ _ e

  most : (c : ℕ) → completes c ≡ true → Most m.n (at rows c) estimates (at estimates' c)
  most c e = subst (Most m.n (at rows c) estimates) (sym (chosen c e)) (favourite_most m.n (at rows c) estimates (omega (arith, k.served)))

  given : (c : ℕ) → completes c ≡ true → at m.verdicts c ≡ 0 → at verdicts' c ≡ elected (poll m.n (at rows c) estimates) m.n
  given c e z = round.verdicts_are c ∙ cond-true (completes c && eqb (at m.verdicts c) 0) _ _ (and_from _ _ e (eq-eqb (at m.verdicts c) 0 z))

  stands : (c : ℕ) → at m.verdicts c ≢ 0 → at verdicts' c ≡ at m.verdicts c
  stands c x =
      round.verdicts_are c
      ∙ cond-false (completes c && eqb (at m.verdicts c) 0) _ _ (and_right (completes c) (eqb (at m.verdicts c) 0) (ne_eqb (at m.verdicts c) 0 x))

  pub gained : Gained m.running falls m.verdicts verdicts'
  gained = record {
    keeps = stands;
    others = λ c e.
        round.verdicts_are c ∙ cond-false (completes c && eqb (at m.verdicts c) 0) _ _ (and_left (completes c) (eqb (at m.verdicts c) 0) e);
  }

  -- ---- estimates

  listed : Listed m.n estimates'
  listed c =
      elim (cases_Bool (completes c)) [
        | inl e ↦ (most c e).listed
        | inr e ↦ omega (arith, stays c e, k.listed c)
      ]

  -- a chosen estimate is that of a console in the row, since the console's own is one of them
  source : (c : ℕ) → completes c ≡ true → (d : ℕ) × (d < m.n) × (member (at rows c) d ≡ true) × (at estimates d ≡ at estimates' c)
  source c e =
      let ran = ok.ran c e in
      let own = voted m.n estimates (at rows c) c ran.0 (ok.itself c e) in
      voter m.n estimates (at rows c) (at estimates' c) (omega (arith, (most c e).most (at estimates c) (k.estimating c ran.1) (k.listed c)))

  entered : Entered m.n m.entries estimates'
  entered c x =
      elim (cases_Bool (completes c)) [
        | inl e ↦ let s = source c e in entry s.0 s.3
        | inr e ↦ entry c (sym (stays c e))
      ]
    where
      entry : (d : ℕ) → at estimates d ≡ at estimates' c → 0 < backing m.n m.entries (at estimates' c)
      entry d e = subst (λ (v : ℕ). 0 < backing m.n m.entries v) e (k.entered d (λ z. x (sym e ∙ z)))

  -- where the rows are one, the chosen estimates are one
  even : Even (cond (steady_round m.n m.running falls rows) (m.steady + 1) 0) (completing m.running falls) estimates'
  even c d h =
      let steady = steady_ok m.n m.running falls rows within (steady_of (steady_round m.n m.running falls rows) m.steady h.0) in
      let row : (i : ℕ) → completes i ≡ true → at rows i ≡ m.running = λ i e. steady.even i (ok.ran i e).1 in
      chosen c h.1 ∙ ap (λ (r : ℕ). favourite (poll m.n r estimates) m.n) (row c h.1 ∙ sym (row d h.2)) ∙ sym (chosen d h.2)

  -- ---- verdicts

  -- a verdict after the round stood before it, or more than two thirds have it
  origin : (c : ℕ) → at verdicts' c ≢ 0 → 2 * m.n < 3 * backing m.n estimates (at verdicts' c)
  origin c x =
      elim (cases_eq (at m.verdicts c) 0) [
        | inr had ↦ subst (λ (v : ℕ). 2 * m.n < 3 * backing m.n estimates v) (sym (stands c had)) (k.backed c had)
        | inl none ↦
            elim (cases_Bool (completes c)) [
              | inr e ↦ absurd (x (gained.others c e ∙ none))
              | inl e ↦
                  omega (arith, elected_many m.n (at rows c) estimates (at verdicts' c) (sym (given c e none)) x, votes_le m.n estimates (at rows c) (at verdicts' c))
            ]
      ]

  -- who has an estimate of more than two thirds keeps it
  backed : Backed m.n estimates' verdicts'
  backed c x =
      let v : ℕ = at verdicts' c in
      let many = origin c x in
      let b = backer m.n estimates v (omega arith) in
      let small : v ≤ m.n = omega (arith, k.listed b.0, b.2) in
      let stay : (d : ℕ) → d < m.n → eqb (at estimates d) v ≡ true → eqb (at estimates' d) v ≡ true = λ d l f.
      elim (cases_Bool (completes d)) [
        | inl e ↦
            eq-eqb (at estimates' d) v
            (most_is m.n (at rows d) estimates m.t v (at estimates' d) k.served (ok.long d e) (omega arith) small many (most d e))
        | inr e ↦ ap (λ (w : ℕ). eqb w v) (stays d e) ∙ f
      ] in
      omega (arith, count_mono (λ d. eqb (at estimates d) v) (λ d. eqb (at estimates' d) v) m.n stay)

  -- where the running consoles had one estimate, all in a row have it
  settled : Settled (cond (steady_round m.n m.running falls rows) (m.steady + 1) 0) (completing m.running falls) verdicts'
  settled h c e z =
      let own : ℕ = at estimates c in
      let ran = ok.ran c e in
      let grown = grown_of (steady_round m.n m.running falls rows) m.steady h in
      let one = votes-all m.n estimates (at rows c) own (λ d l f. k.even d c (grown, ok.heard c d e f, ran.1)) in
      elim (cases_eq (at m.verdicts c) 0) [
        | inl none ↦
            many_elected m.n (at rows c) estimates own (k.estimating c ran.1) (k.listed c) (omega (arith, ok.long c e, k.served)) (sym (given c e none) ∙ z)
        | inr had ↦ had (sym (stands c had) ∙ z)
      ]

  pub kept : Keeps (next m falls rows verdicts') estimates'
  kept = record {
    served = k.served;
    entered = entered;
    listed = listed;
    estimating = λ c e. (most c e).author;
    backed = backed;
    even = even;
    settled = settled;
  }

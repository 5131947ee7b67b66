-- The laws of every press: agreement and settling from what the front hands over and from the back end's laws, decisions in time from the front.
use Rattle.std.proofs.Common.{◌≡◌, ℕ, zero, suc, ◌+◌, ◌-◌, ◌*◌, ◌^◌, ◌<◌, ◌≤◌, Bool, true, ◌&&◌, eqb, ltb, ◌≢◌, ◌⊎◌, List, [], ◌∷◌, length, sym, refl, ap, ◌∙◌, subst, inl, inr, arith, length-drop}
use Rattle.std.proofs.lemmas.Bool.{cases_Bool, cases_lt, and_from, and_left, and_right, cond-true, cond-false, eq-eqb, ne_eqb, eqb-true, lt-ltb}
use Rattle.console_sets.specs.Sets.{count, member, one}
use Rattle.console_sets.proofs.Counting.{count_none, count_more, count_empty}
use Rattle.console_sets.proofs.Digits.{member_below}
use Rattle.std.specs.declared.cmp.Ordering.{Ordering}
use Rattle.orders.specs.Orders.{Lawful as Ordered}
use Rattle.std.specs.Ordering.{is_lt}
use Rattle.orders.specs.Ranks.{takes_part}
use Rattle.orders.proofs.Ranked.{rank_apart, not_before}
use Rattle.rounds.specs.Items.{at}
use Rattle.rounds.specs.Rounds.{steady_round}
use Rattle.front.specs.declared.consoles.Console.{Console}
use Rattle.front.specs.Consoles.{State}
use Rattle.front.specs.Deciding.{entries_after}
use Rattle.front.specs.Runs.{Opening, running, entries, Sound as Opened, AllTruthful}
use Rattle.front.specs.Runs as front
use Rattle.front.specs.Laws.{HandedOver}
use Rattle.front.proofs.Searches.{some_true}
use Rattle.front.proofs.Steps.{below, ran}
use Rattle.front.proofs.HandOver.{handed_over}
use Rattle.front.proofs.OnTime as fast
use Rattle.rig.specs.Later.{lacks}
use Rattle.rig.specs.Presses.{Played, Press, opening, rounds_of, state, verdicts_of, steadies, first_rounds, LastSteady, opened_with, consoles, running_after, completing_first, FirstTruthful}
use Rattle.rig.specs.Laws.{decided_on, Ran, OnTime, Lawful}
use Rattle.rig.proofs.LaterRounds.{From, stays, comes_from, takes}
use Rattle.rig.proofs.Good.{Good, Since, now, later, since_drop, longer, good_first, same_length, accepted_rounds, front_state, later_state, none_yet}

-- a test that no two indices pass counts nought or one
at_most_one : (p : ℕ → Bool) (n : ℕ) → ((a b : ℕ) → p a ≡ true → p b ≡ true → a ≡ b) → count p n ≤ 1
at_most_one p zero same = omega (arith, count_none p)
at_most_one p (suc n) same =
    elim (cases_Bool (p n)) [
      | inr off ↦ omega (arith, count_more p n, ap one off, at_most_one p n same)
      | inl on ↦
          omega (
            arith,
            count_more p n,
            ap one on,
            count_empty p n (λ c l.
                elim (cases_Bool (p c)) [ inr e ↦ e | inl e ↦ absurd (omega (arith, same c n e on)) ]),
          )
    ]

-- ---- the rounds ps of a press whose first t + 2 are `first`

module _ (bound : ℕ) (o : Opening) (opens : Opened o) (first : List Played) (full : length first ≡ o.t + 2) where
  -- a decision stays
  held : {ps : List Played} → Since first ps → (c : ℕ) → (state o first c).decision ≢ 0 → state o ps c ≡ state o first c
  held now c had = refl
  held (later {ps = ps} p since) c had =
      let before = held since c had in
      let still : (state o ps c).decision ≢ 0 = λ z. had (sym (ap (λ (x : Console). x.decision) before) ∙ z) in
      ap (λ (s : State). s c) (later_state o p ps (omega (arith, longer since))) ∙ stays _ _ _ _ _ _ c still ∙ before

  -- a decision is the front's, or a verdict
  abbrev Source : List Played → ℕ → Type 0
  Source ps c =
      ((x : ℕ) × ((state o first x).decision ≢ 0) × ((state o ps c).decision ≡ (state o first x).decision))
      ⊎ ((d : ℕ) × (verdicts_of ps d ≡ (state o ps c).decision))

  source : {ps : List Played} → Since first ps → Good bound o ps → (c : ℕ) → (state o ps c).decision ≢ 0 → Source ps c
  source now good c has = inl (c, has, refl)
  source (later {ps = ps} p since) good c has =
      let long : o.t + 2 ≤ length ps = omega (arith, longer since) in
      let e : (state o (p ∷ ps) c).decision ≡ _ = ap (λ (s : State). (s c).decision) (later_state o p ps long) in
      go long (source since good.0) (subst (From (state o ps) (p.verdicts c)) (sym e) (comes_from _ _ _ _ _ _ c (λ z. has (e ∙ z))))
    where
      go : o.t + 2 ≤ length ps → ((b : ℕ) → (state o ps b).decision ≢ 0 → Source ps b)
          → From (state o ps) (p.verdicts c) (state o (p ∷ ps) c).decision → Source (p ∷ ps) c
      go long before (inr v) = inr (c, sym v)
      go long before (inl (b, had, same)) =
          elim (before b had) [
            | inl x ↦ inl (x.0, x.1, same ∙ x.2)
            | inr x ↦ inr (x.0, good.1.keeps (omega arith) x.0 (λ z. had (sym x.1 ∙ z)) ∙ x.1 ∙ sym same)
          ]

  -- the entries stay those of round t + 2
  same_entries : {ps : List Played} → Since first ps → (c : ℕ) → entries o (rounds_of ps) c ≡ entries o (rounds_of first) c
  same_entries now c = refl
  same_entries (later {ps = ps} p since) c =
      cond-false (eqb (length (rounds_of ps)) (o.t + 1)) _ _
      (ne_eqb (length (rounds_of ps)) (o.t + 1) (λ e. omega (arith, longer since, same_length ps)))
      ∙ same_entries since c

  -- the verdicts are one author, the entry of somebody
  record Voice (ps : List Played) : Type 0 where
    pub one_verdict : (c d : ℕ) → verdicts_of ps c ≢ 0 → verdicts_of ps d ≢ 0 → verdicts_of ps c ≡ verdicts_of ps d
    pub an_entry : (c : ℕ) → verdicts_of ps c ≢ 0 → (d : ℕ) × (entries o (rounds_of first) d ≡ verdicts_of ps c)

  silent : (ps : List Played) → Good bound o ps → length ps ≤ o.t + 2 → (c : ℕ) → verdicts_of ps c ≡ 0
  silent [] good l c = refl
  silent (p ∷ ps) good l c = good.1.silent (omega arith) c

  voice : {ps : List Played} → Since first ps → Good bound o ps → Voice ps
  voice now good = record {
    one_verdict = λ c d nc nd. absurd (nc (silent first good (omega arith) c));
    an_entry = λ c nc. absurd (nc (silent first good (omega arith) c));
  }
  voice (later {ps = ps} p since) good =
      let v = good.1.voiced (omega (arith, longer since)) in
      let says : (c : ℕ) → at v.0.verdicts c ≡ p.verdicts c = v.1.verdicts in
      record {
        one_verdict = λ c d nc nd. sym (says c) ∙ v.2.one_verdict c d (λ z. nc (sym (says c) ∙ z)) (λ z. nd (sym (says d) ∙ z)) ∙ says d;
        an_entry = λ c nc.
            let d = v.2.an_entry c (λ z. nc (sym (says c) ∙ z)) in
            (d.0, sym (same_entries (later p since) d.0) ∙ sym (v.1.enters d.0) ∙ d.2 ∙ says c);
      }

  -- who has an entry runs after round t + 2
  entry_runs : (ps : List Played) → length ps ≡ o.t + 2 → (c : ℕ) → entries o (rounds_of ps) c ≢ 0 → member (running o (rounds_of ps)) c ≡ true
  unfolding entries_after
  entry_runs [] l c has = absurd (omega arith)
  entry_runs (p ∷ ps) l c has =
      elim (cases_Bool (member (running o (rounds_of (p ∷ ps))) c)) [
        | inl m ↦ m
        | inr m ↦
            absurd (has (
            cond-true (eqb (length (rounds_of ps)) (o.t + 1)) _ _ (eq-eqb (length (rounds_of ps)) (o.t + 1) (omega (arith, same_length ps)))
            ∙ cond-false (member (running o (rounds_of (p ∷ ps))) c) _ _ m))
      ]

  module _ {ps : List Played} (since : Since first ps) (good : Good bound o ps) where
    good_start : Good bound o first
    good_start = good_first bound o since good

    hands : HandedOver o.ran (running o (rounds_of first)) (λ c. (front.state o (rounds_of first) c).decision) (entries o (rounds_of first))
    hands = handed_over o opens (rounds_of first) (accepted_rounds o bound first good_start) (same_length first ∙ full)

    same_state : (c : ℕ) → state o first c ≡ front.state o (rounds_of first) c
    same_state c = ap (λ (s : State). s c) (front_state o first (omega arith))

    decision_is : (c : ℕ) → (state o first c).decision ≡ (front.state o (rounds_of first) c).decision
    decision_is c = ap (λ (x : Console). x.decision) (same_state c)

    -- a verdict beside a decision of the front is that decision
    beside : (x d : ℕ) → (state o first x).decision ≢ 0 → verdicts_of ps d ≢ 0 → verdicts_of ps d ≡ (state o first x).decision
    beside x d nx nd =
        let e = (voice since good).an_entry d nd in
        sym e.1
        ∙ hands.entered x e.0 (λ z. nx (decision_is x ∙ z)) (entry_runs first full e.0 (λ z. nd (sym e.1 ∙ z)))
        ∙ sym (decision_is x)

    agree : (c d : ℕ) → (state o ps c).decision ≢ 0 → (state o ps d).decision ≢ 0 → (state o ps c).decision ≡ (state o ps d).decision
    agree c d nc nd = go (source since good c nc) (source since good d nd)
      where
        go : Source ps c → Source ps d → (state o ps c).decision ≡ (state o ps d).decision
        go (inl x) (inl y) =
            x.2 ∙ decision_is x.0 ∙ hands.one_author x.0 y.0 (λ z. x.1 (decision_is x.0 ∙ z)) (λ z. y.1 (decision_is y.0 ∙ z))
            ∙ sym (decision_is y.0) ∙ sym y.2
        go (inl x) (inr y) = x.2 ∙ sym (beside x.0 y.0 x.1 (λ z. nd (sym y.1 ∙ z))) ∙ y.1
        go (inr x) (inl y) = sym x.1 ∙ beside y.0 x.0 y.1 (λ z. nc (sym x.1 ∙ z)) ∙ sym y.2
        go (inr x) (inr y) = sym x.1 ∙ (voice since good).one_verdict x.0 y.0 (λ z. nc (sym x.1 ∙ z)) (λ z. nd (sym y.1 ∙ z)) ∙ y.1

    author : (c : ℕ) → (state o ps c).decision ≢ 0 → (a : ℕ) × ((state o ps c).decision ≡ suc a) × (member o.ran a ≡ true)
    author c nc =
        elim (source since good c nc) [
          | inl x ↦
              let a = hands.decided_ran x.0 (λ z. x.1 (decision_is x.0 ∙ z)) in
              (a.0, x.2 ∙ decision_is x.0 ∙ a.1, a.2)
          | inr x ↦
              let nv : verdicts_of ps x.0 ≢ 0 = λ z. nc (sym x.1 ∙ z) in
              let e = (voice since good).an_entry x.0 nv in
              let a = hands.entry_ran e.0 (entry_runs first full e.0 (λ z. nv (sym e.1 ∙ z))) in
              (a.0, sym x.1 ∙ sym e.1 ∙ a.1, a.2)
        ]

    -- what truthful first rounds give to one who completes them
    record Quick (c : ℕ) : Type 0 where
      pub index : ℕ
      pub decides : (state o ps c).decision ≡ suc index
      pub exactly : (state o ps c).round ≡ o.t + 2
      pub foremost : (d : ℕ) → member (running o (rounds_of first)) d ≡ true → o.rank index ≤ o.rank d

    quick : AllTruthful o (rounds_of first) → (c : ℕ) → member (running o (rounds_of first)) c ≡ true → Quick c
    quick honest c m =
        let w = fast.on_time o opens (rounds_of first) (accepted_rounds o bound first good_start) honest (same_length first ∙ full) c m in
        let same = held since c (λ z. omega (arith, sym w.decides ∙ sym (decision_is c) ∙ z)) ∙ same_state c in
        record {
          index = w.author;
          decides = ap (λ (x : Console). x.decision) same ∙ w.decides;
          exactly = ap (λ (x : Console). x.round) same ∙ w.exactly;
          foremost = w.foremost;
        }

-- ---- settling

module _ (bound : ℕ) (o : Opening) where
  steady_count : (k : ℕ) (ps : List Played) → LastSteady k o ps → o.t + 2 + k ≤ length ps → k ≤ steadies o ps
  steady_count zero ps steady l = omega arith
  steady_count (suc k) [] steady l = absurd steady
  steady_count (suc k) (p ∷ ps) steady l =
      let was = steady_round o.n (running o (rounds_of ps)) p.round.falls p.round.rows in
      omega (
        arith,
        steady_count k ps steady.1 (omega arith),
        cond-true (ltb (o.t + 1) (length ps) && was) (steadies o ps + 1) 0
            (and_from (ltb (o.t + 1) (length ps)) was (lt-ltb (o.t + 1) (length ps) (omega arith)) steady.0),
      )

  settled : (ps : List Played) → Good bound o ps → o.t + 2 + suc bound ≤ length ps → LastSteady (suc bound) o ps
      → (c : ℕ) → member (running o (rounds_of ps)) c ≡ true → (state o ps c).decision ≢ 0
  settled [] good l steady c m z = absurd steady
  settled (p ∷ ps) good l steady c m z =
      let v = good.1.voiced (omega arith) in
      let said : p.verdicts c ≢ 0 =
      λ y. v.3 (omega (arith, v.1.counts, steady_count (suc bound) (p ∷ ps) steady l)) c (ap (λ (x : ℕ). member x c) v.1.runs ∙ m) (v.1.verdicts c ∙ y) in
      takes _ _ _ _ _ _ c m said (sym (ap (λ (s : State). (s c).decision) (later_state o p ps (omega arith))) ∙ z)

-- ---- a press

-- an order's ranks are an opening that the front takes
pub opens_with : (n t ran : ℕ) (place : ℕ → ℕ → Ordering) → 2 * t < n → ran < 2 ^ n → Ordered place → Opened (opening n t ran place)
opens_with n t ran place few within ordered = record {
  few = few;
  within = within;
  apart = λ a b ma mb e. rank_apart n ran place ordered a b (part a ma) (part b mb) e;
}
  where
    part : (a : ℕ) → member ran a ≡ true → takes_part n ran a ≡ true
    part a m = and_from (ltb a n) (member ran a) (lt-ltb a n (member_below n ran a within m)) m

module _ (n t bound : ℕ) (press : Press) (ordered : Ordered press.place) (opens : Opened (opened_with n t press))
    (good : Good bound (opened_with n t press) press.played) where
  -- its first t + 2 rounds
  start_since : Since (first_rounds (t + 2) press.played) press.played
  start_since = since_drop (length press.played - (t + 2)) press.played

  start_full : t + 2 ≤ length press.played → length (first_rounds (t + 2) press.played) ≡ t + 2
  start_full l = omega (arith, length-drop (length press.played - (t + 2)) press.played)

  -- before round t + 2 nobody has decided
  late : (c : ℕ) → (consoles n t press c).decision ≢ 0 → t + 2 ≤ length press.played
  late c has =
      elim (cases_lt (length press.played) (t + 2)) [
        | inl l ↦ absurd (has (none_yet (opened_with n t press) opens press.played (omega arith) c))
        | inr l ↦ l
      ]

  -- any two decisions are the same
  pub agreed : (c d : ℕ) → (consoles n t press c).decision ≢ 0 → (consoles n t press d).decision ≢ 0
      → (consoles n t press c).decision ≡ (consoles n t press d).decision
  agreed c d nc nd = agree bound (opened_with n t press) opens _ (start_full (late c nc)) start_since good c d nc nd

  -- and each author ran
  pub ran_then : (c : ℕ) → (consoles n t press c).decision ≢ 0 → Ran n press (consoles n t press c).decision
  ran_then c nc =
      let a = author bound (opened_with n t press) opens _ (start_full (late c nc)) start_since good c nc in
      record { index = a.0; is = a.1; below = below (opened_with n t press) opens [] a.0 a.2; ran = a.2 }

  in_time : t + 2 ≤ length press.played → FirstTruthful (t + 2) n t press
      → (c : ℕ) → member (completing_first (t + 2) n t press) c ≡ true → OnTime n t press c
  in_time l honest c m =
      let o : Opening = opened_with n t press in
      let w = quick bound o opens _ (start_full l) start_since good honest c m in
      let has : (consoles n t press c).decision ≢ 0 = λ z. omega (arith, w.decides) in
      let a = ran_then c has in
      let same : w.index ≡ a.index = omega (arith, w.decides, a.is) in
      let less : (consoles n t press c).decision - 1 ≡ a.index = omega (arith, a.is) in
      let part : (b : ℕ) → member press.ran b ≡ true → takes_part n press.ran b ≡ true =
      λ b mb. and_from (ltb b n) (member press.ran b) (lt-ltb b n (below o opens [] b mb)) mb in
      record {
        decides = has;
        exactly = w.exactly;
        none_before = λ d md.
            ap (λ (x : ℕ). is_lt (press.place d x)) less
            ∙ not_before n press.ran press.place ordered d a.index (part d (ran o opens (rounds_of (first_rounds (t + 2) press.played)) d md)) (part a.index a.ran)
            (omega (arith, ap o.rank same, w.foremost d md));
      }

  pub lawful : Lawful n t bound press
  lawful = record {
    one_author = at_most_one (decided_on n (consoles n t press)) n (λ a b on_a on_b.
        let c = some_true _ n on_a in
        let d = some_true _ n on_b in
        let is_a = eqb-true (consoles n t press c.0).decision (suc a) c.2 in
        let is_b = eqb-true (consoles n t press d.0).decision (suc b) d.2 in
        omega (arith, sym is_a ∙ agreed c.0 d.0 (λ z. omega (arith, is_a)) (λ z. omega (arith, is_b)) ∙ is_b));
    author_ran = ran_then;
    on_time = in_time;
    settles = λ l steady. count_empty (lacks (running_after n t press) (consoles n t press)) n (λ c k.
        elim (cases_Bool (member (running_after n t press) c)) [
          | inr m ↦ and_left _ _ m
          | inl m ↦
              and_right _ _ (ne_eqb (consoles n t press c).decision 0 (settled bound (opened_with n t press) press.played good l steady c m))
        ]);
  }

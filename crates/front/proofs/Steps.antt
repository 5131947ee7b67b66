-- What each round of 1 to t + 1 does, over the run that the definitions make: who completes it, whom it halts, and which estimate it gives.
use Rattle.std.proofs.Common.{◌≡◌, ℕ, suc, ◌+◌, ◌-◌, ◌^◌, ◌<◌, ◌≤◌, Bool, true, false, not, ◌&&◌, eqb, ltb, leb, List, [], ◌∷◌, ◌++◌, length, sym, refl, ap, ◌∙◌, inl, inr, arith}
use Rattle.std.proofs.lemmas.Bool.{cases_Bool, and_parts, and_from, cond-true, cond-false, le-leb, lt-leb, lt-ltb, eq-eqb, eqb-true}
use Rattle.console_sets.specs.Sets.{member}
use Rattle.console_sets.proofs.Digits.{member_none, member-without, member_below, without_lt}
use Rattle.console_sets.proofs.SetOf.{member-set_of, set_of_lt}
use Rattle.rounds.specs.Items.{at}
use Rattle.rounds.specs.Laws.{RoundOk}
use Rattle.rounds.proofs.Accepted.{round_ok}
use Rattle.front.specs.declared.consoles.Console.{Console}
use Rattle.front.specs.Consoles.{State}
use Rattle.front.specs.Searches.{some, foremost}
use Rattle.front.specs.Halting.{halts, halt_set, offers, candidates, halting, after_halting}
use Rattle.front.specs.Deciding.{after_deciding, entries_after}
use Rattle.front.specs.Runs.{Opening, Round, running, after, state, entries, Sound, Accepted}
use Rattle.front.proofs.Searches.{some_true, true_some, foremost_is, foremost_some}

-- ---- which round is which

module _ (o : Opening) (r : Round) (q : List Round) where
  pub state_halting : length q ≤ o.t → state o (r ∷ q) ≡ after_halting o.n o.rank (running o (r ∷ q)) r.rows (state o q)
  unfolding after
  state_halting l = cond-true (leb (suc (length q)) (o.t + 1)) _ _ (le-leb (suc (length q)) (o.t + 1) (omega arith))

  pub state_deciding : length q ≡ o.t + 1 → state o (r ∷ q) ≡ after_deciding o.n o.t (running o (r ∷ q)) r.rows (state o q)
  unfolding after
  state_deciding l =
      cond-false (leb (suc (length q)) (o.t + 1)) _ _ (lt-leb (suc (length q)) (o.t + 1) (omega arith))
      ∙ cond-true (eqb (suc (length q)) (o.t + 2)) _ _ (eq-eqb (suc (length q)) (o.t + 2) (omega arith))

  pub entries_deciding : length q ≡ o.t + 1 → (c : ℕ) → entries o (r ∷ q) c ≡ entries_after o.n o.t (running o (r ∷ q)) r.rows (state o q) c
  entries_deciding l c = cond-true (eqb (length q) (o.t + 1)) _ _ (eq-eqb (length q) (o.t + 1) l)

-- ---- one round of any state

module _ (n : ℕ) (row : ℕ) (halt : ℕ) (s : State) where
  -- the candidates are estimates of consoles in the row and outside the halt set
  offered_by : (a : ℕ) → member (candidates n row halt s) a ≡ true
      → (j : ℕ) × (j < n) × (member row j ≡ true) × (member halt j ≡ false) × ((s j).estimate ≡ suc a)
  offered_by a m =
      let both = and_parts (ltb a n) (some (offers row halt s a) n) (sym (member-set_of (λ b. some (offers row halt s b) n) n a) ∙ m) in
      let j = some_true (offers row halt s a) n both.1 in
      let parts = apart (member row j.0) (member halt j.0) (eqb (s j.0).estimate (suc a)) j.2 in
      (j.0, j.1, parts.0, parts.1, eqb-true (s j.0).estimate (suc a) parts.2)
    where
      apart : (x y z : Bool) → (x && not y && z) ≡ true → (x ≡ true) × (y ≡ false) × (z ≡ true)
      apart x y z e = (grind arith, grind arith, grind arith)

  -- and each such estimate is one
  offering : (a j : ℕ) → a < n → j < n → member row j ≡ true → member halt j ≡ false → (s j).estimate ≡ suc a
      → member (candidates n row halt s) a ≡ true
  offering a j la lj heard out e =
      member-set_of (λ b. some (offers row halt s b) n) n a
      ∙ and_from (ltb a n) (some (offers row halt s a) n) (lt-ltb a n la)
      (true_some (offers row halt s a) n j lj (three (member row j) (member halt j) (eqb (s j).estimate (suc a)) heard out (eq-eqb (s j).estimate (suc a) e)))
    where
      three : (x y z : Bool) → x ≡ true → y ≡ false → z ≡ true → (x && not y && z) ≡ true
      three x y z e f g = grind arith

-- ---- accepted rounds

-- the rounds before the later ones
pub first_accepted : (o : Opening) (later q : List Round) → Accepted o (later ++ q) → Accepted o q
first_accepted o [] q good = good
first_accepted o (r ∷ later) q good = first_accepted o later q good.0

pub first_shorter : (later q : List Round) → length q ≤ length (later ++ q)
first_shorter [] q = omega arith
first_shorter (r ∷ later) q = omega (arith, first_shorter later q)

module _ (o : Opening) (opens : Sound o) where
  pub within : (rs : List Round) → running o rs < 2 ^ o.n
  within [] = opens.within
  within (r ∷ rs) = without_lt o.n (running o rs) r.falls (within rs)

  pub below : (rs : List Round) (i : ℕ) → member (running o rs) i ≡ true → i < o.n
  below rs i m = member_below o.n (running o rs) i (within rs) m

  pub ok : (r : Round) (rs : List Round) → Accepted o (r ∷ rs) → RoundOk o.n o.t (running o rs) (length rs) r.falls r.rows
  ok r rs good = round_ok o.n o.t (running o rs) (length rs) r.falls r.rows (within rs) good.1

  -- who completes a round ran at its start, and when the press opened
  pub stays : (r : Round) (rs : List Round) (i : ℕ) → member (running o (r ∷ rs)) i ≡ true → member (running o rs) i ≡ true
  stays r rs i m = (and_parts (member (running o rs) i) (not (member r.falls i)) (sym (member-without (running o rs) r.falls i) ∙ m)).0

  pub ran : (rs : List Round) (i : ℕ) → member (running o rs) i ≡ true → member o.ran i ≡ true
  ran [] i m = m
  ran (r ∷ rs) i m = ran rs i (stays r rs i m)

  -- ---- rounds 1 to t + 1

  module _ (r : Round) (q : List Round) (early : length q ≤ o.t) where
    -- who does not complete the round keeps what it has
    pub kept : (i : ℕ) → member (running o (r ∷ q)) i ≡ false → state o (r ∷ q) i ≡ state o q i
    unfolding after_halting
    kept i m = ap (λ (s : State). s i) (state_halting o r q early) ∙ cond-false (member (running o (r ∷ q)) i) _ _ m

    pub halted : (i : ℕ) → member (running o (r ∷ q)) i ≡ true → state o (r ∷ q) i ≡ halting o.n o.rank (at r.rows i) (state o q) i
    unfolding after_halting
    halted i m = ap (λ (s : State). s i) (state_halting o r q early) ∙ cond-true (member (running o (r ∷ q)) i) _ _ m

    pub new_halt : (i : ℕ) → member (running o (r ∷ q)) i ≡ true → (state o (r ∷ q) i).halt ≡ halt_set o.n (at r.rows i) (state o q) i
    new_halt i m = ap (λ (c : Console). c.halt) (halted i m)

    chosen_by : (i : ℕ) → member (running o (r ∷ q)) i ≡ true
        → (state o (r ∷ q) i).estimate ≡ foremost o.n o.rank (candidates o.n (at r.rows i) (state o (r ∷ q) i).halt (state o q))
    chosen_by i m =
        ap (λ (c : Console). c.estimate) (halted i m)
        ∙ ap (λ (h : ℕ). foremost o.n o.rank (candidates o.n (at r.rows i) h (state o q))) (sym (new_halt i m))

    -- whom the halt set holds after the round
    pub gained : (i j : ℕ) → j < o.n → member (running o (r ∷ q)) i ≡ true
        → member (state o (r ∷ q) i).halt j ≡ halts (at r.rows i) (state o q) i j
    gained i j l m =
        ap (λ (h : ℕ). member h j) (new_halt i m) ∙ member-set_of (halts (at r.rows i) (state o q) i) o.n j
        ∙ ap (λ (b : Bool). b && halts (at r.rows i) (state o q) i j) (lt-ltb j o.n l)

    pub undecided_still : (i : ℕ) → (state o (r ∷ q) i).decision ≡ (state o q i).decision
    undecided_still i =
        elim (cases_Bool (member (running o (r ∷ q)) i)) [
          | inl m ↦ ap (λ (c : Console). c.decision) (halted i m)
          | inr m ↦ ap (λ (c : Console). c.decision) (kept i m)
        ]

  -- halt sets hold consoles of the group
  pub halt_within : (q : List Round) (i : ℕ) → length q ≤ o.t + 1 → (state o q i).halt < 2 ^ o.n
  halt_within [] i l = omega arith
  halt_within (r ∷ q) i l =
      elim (cases_Bool (member (running o (r ∷ q)) i)) [
        | inl m ↦ omega (arith, new_halt r q (omega arith) i m, set_of_lt (halts (at r.rows i) (state o q) i) o.n)
        | inr m ↦ omega (arith, ap (λ (c : Console). c.halt) (kept r q (omega arith) i m), halt_within q i (omega arith))
      ]

  -- nobody has decided up to round t + 1
  pub undecided : (q : List Round) → length q ≤ o.t + 1 → (i : ℕ) → (state o q i).decision ≡ 0
  undecided [] l i = refl
  undecided (r ∷ q) l i = undecided_still r q (omega arith) i ∙ undecided q (omega arith) i

  -- a running console has not halted itself, and its estimate is an author that ran when the press opened
  pub record Own (q : List Round) (i : ℕ) : Type 0 where
    pub unhalted : member (state o q i).halt i ≡ false
    pub author : ℕ
    pub is : (state o q i).estimate ≡ suc author
    pub author_ran : member o.ran author ≡ true

  -- nobody that completes a round comes to halt itself in it
  not_itself : (r : Round) (q : List Round) → Accepted o (r ∷ q) → length q ≤ o.t → (i : ℕ) → member (running o (r ∷ q)) i ≡ true
      → member (state o q i).halt i ≡ false → member (state o (r ∷ q) i).halt i ≡ false
  not_itself r q good early i m out = grind (arith, gained r q early i i (below (r ∷ q) i m) m, (ok r q good).itself i m)

  pub own : (q : List Round) → Accepted o q → length q ≤ o.t + 1 → (i : ℕ) → member (running o q) i ≡ true → Own q i
  own [] good l i m = record { unhalted = member_none i; author = i; is = cond-true (member o.ran i) (suc i) 0 m; author_ran = m }
  own (r ∷ q) good l i m =
      let n = o.n in
      let row = at r.rows i in
      let s = state o q in
      let halt = (state o (r ∷ q) i).halt in
      let early : length q ≤ o.t = omega arith in
      let k = ok r q good in
      let mine = own q good.0 (omega arith) i (stays r q i m) in
      let li = below (r ∷ q) i m in
      let out = not_itself r q good early i m mine.unhalted in
      let offer = offering n row halt s mine.author i (below [] mine.author mine.author_ran) li (k.itself i m) out mine.is in
      let a = foremost_some n o.rank (candidates n row halt s) mine.author (below [] mine.author mine.author_ran) offer in
      let j = offered_by n row halt s a.0 (foremost_is n o.rank (candidates n row halt s) a.0 a.1).1 in
      let theirs = own q good.0 (omega arith) j.0 (k.heard i j.0 m j.2) in
      let same : theirs.author ≡ a.0 = omega (arith, sym theirs.is ∙ j.4) in
      record { unhalted = out; author = a.0; is = chosen_by r q early i m ∙ a.1; author_ran = ap (member o.ran) (sym same) ∙ theirs.author_ran }

-- the rank of an author by its number
abbrev pub rank_of : Opening → ℕ → ℕ
rank_of o author = o.rank (author - 1)

pub rank-suc : (o : Opening) (a v : ℕ) → v ≡ suc a → rank_of o v ≡ o.rank a
rank-suc o a v e = let less : v - 1 ≡ a = omega arith in ap o.rank less

-- a round of 1 to t + 1 of a run
module _ (o : Opening) (opens : Sound o) (r : Round) (q : List Round) (good : Accepted o (r ∷ q)) (early : length q ≤ o.t)
    (i : ℕ) (m : member (running o (r ∷ q)) i ≡ true) where
  -- the new estimate is that of a console that was heard and is outside the new halt set
  pub chosen : (j : ℕ) × (j < o.n) × (member (at r.rows i) j ≡ true) × (member (state o (r ∷ q) i).halt j ≡ false)
      × ((state o (r ∷ q) i).estimate ≡ (state o q j).estimate)
  chosen =
      let me = own o opens (r ∷ q) good (omega arith) i m in
      let set = candidates o.n (at r.rows i) (state o (r ∷ q) i).halt (state o q) in
      let f = foremost_is o.n o.rank set me.author (sym (chosen_by o opens r q early i m) ∙ me.is) in
      let j = offered_by o.n (at r.rows i) (state o (r ∷ q) i).halt (state o q) me.author f.1 in
      (j.0, j.1, j.2, j.3, me.is ∙ sym j.4)

  -- and none of those precedes it
  pub chosen_first : (j : ℕ) → j < o.n → member (at r.rows i) j ≡ true → member (state o (r ∷ q) i).halt j ≡ false
      → rank_of o (state o (r ∷ q) i).estimate ≤ rank_of o (state o q j).estimate
  chosen_first j l heard out =
      let me = own o opens (r ∷ q) good (omega arith) i m in
      let them = own o opens q good.0 (omega arith) j ((ok o opens r q good).heard i j m heard) in
      let listed = below o opens [] them.author them.author_ran in
      let set = candidates o.n (at r.rows i) (state o (r ∷ q) i).halt (state o q) in
      let f = foremost_is o.n o.rank set me.author (sym (chosen_by o opens r q early i m) ∙ me.is) in
      let offer = offering o.n (at r.rows i) (state o (r ∷ q) i).halt (state o q) them.author j listed l heard out them.is in
      omega (
        arith,
        rank-suc o me.author (state o (r ∷ q) i).estimate me.is,
        rank-suc o them.author (state o q j).estimate them.is,
        f.2 them.author listed offer,
      )

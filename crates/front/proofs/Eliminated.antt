-- Why two consoles that complete round t + 1 with new estimates that are present have the same one.
-- Suppose that x has one of rank c at most, and y one of a higher rank. A console is called low after some rounds if it has not completed them all, or has an
-- estimate of rank c at most. Who is low stays low, and who is not low has halted all that were low one round before. Were there a round up to t in which
-- nobody becomes low, x would have been low before round t, all that are not low after round t would have halted x, and x those: more than t. So somebody
-- becomes low in each of these rounds, and more than t are low after round t. But y has halted all of them, so that its new estimate is missing.
use Rattle.std.proofs.Common.{◌≡◌, ℕ, suc, ◌+◌, ◌<◌, ◌≤◌, Bool, true, false, not, ◌||◌, leb, List, [], ◌∷◌, ◌++◌, length, sym, ap, ◌∙◌, subst, inl, inr, append_assoc, arith}
use Rattle.std.proofs.lemmas.Bool.{cases_Bool, cases_order, both_ways, not-true}
use Rattle.std.proofs.lemmas.Bool.Decides.{nat_tests}
use Rattle.console_sets.specs.Sets.{member, count}
use Rattle.console_sets.proofs.Counting.{count_mono, count_strict, count-not, count_pos, extra}
use Rattle.front.specs.Runs.{Opening, Round, running, state, Sound, Accepted}
use Rattle.front.proofs.Steps.{first_accepted, first_shorter, below, ok, stays, gained, own, rank_of, rank-suc, chosen, chosen_first}

-- who has not completed the rounds, or has completed them with an estimate of rank c at most
abbrev low : Opening → ℕ → List Round → ℕ → Bool
low o c q j = not (member (running o q) j) || leb (rank_of o (state o q j).estimate) c

-- the rounds r ∷ q, t + 1 in number, leave x with an estimate of rank c at most and y with one of a higher rank, and halt sets of at most t members
record Split (o : Opening) (c x y : ℕ) (r : Round) (q : List Round) : Type 0 where
  pub good : Accepted o (r ∷ q)
  pub last : length q ≡ o.t
  pub x_done : member (running o (r ∷ q)) x ≡ true
  pub y_done : member (running o (r ∷ q)) y ≡ true
  pub x_few : count (member (state o (r ∷ q) x).halt) o.n ≤ o.t
  pub y_few : count (member (state o (r ∷ q) y).halt) o.n ≤ o.t
  pub x_low : rank_of o (state o (r ∷ q) x).estimate ≤ c
  pub y_high : c < rank_of o (state o (r ∷ q) y).estimate

module _ (o : Opening) (opens : Sound o) where
  -- a halt set keeps its members
  halt_kept : (later q : List Round) → length (later ++ q) ≤ o.t + 1 → (i j : ℕ) → j < o.n → member (running o (later ++ q)) i ≡ true
      → member (state o q i).halt j ≡ true → member (state o (later ++ q) i).halt j ≡ true
  halt_kept [] q l i j lj m e = e
  halt_kept (r ∷ later) q l i j lj m e =
      let old = halt_kept later q (omega arith) i j lj (stays o opens r (later ++ q) i m) e in
      grind (arith, gained o opens r (later ++ q) (omega arith) i j lj m)

  module _ (c : ℕ) where
    -- who is not low after a round has halted all that were low before it
    halts_low : (r : Round) (q : List Round) → Accepted o (r ∷ q) → length q ≤ o.t → (i j : ℕ) → i < o.n → j < o.n
        → low o c (r ∷ q) i ≡ false → low o c q j ≡ true → member (state o (r ∷ q) i).halt j ≡ true
    halts_low r q good l i j li lj out was =
        let m : member (running o (r ∷ q)) i ≡ true = grind arith in
        grind (arith, nat_tests, gained o opens r q l i j lj m, (ok o opens r q good).heard i j m, chosen_first o opens r q good l i m j lj)

    -- the low stay low
    low_step : (r : Round) (q : List Round) → Accepted o (r ∷ q) → length q ≤ o.t → (i : ℕ) → i < o.n → low o c q i ≡ true → low o c (r ∷ q) i ≡ true
    low_step r q good l i li was =
        elim (cases_Bool (low o c (r ∷ q) i)) [
          | inl e ↦ e
          | inr e ↦
              let m : member (running o (r ∷ q)) i ≡ true = grind arith in
              let me = own o opens (r ∷ q) good (omega arith) i m in
              absurd (both_ways (member (state o (r ∷ q) i).halt i) me.unhalted (halts_low r q good l i i li li e was))
        ]

    low_kept : (later q : List Round) → Accepted o (later ++ q) → length (later ++ q) ≤ o.t + 1 → (i : ℕ) → i < o.n
        → low o c q i ≡ true → low o c (later ++ q) i ≡ true
    low_kept [] q good l i li e = e
    low_kept (r ∷ later) q good l i li e = low_step r (later ++ q) good (omega arith) i li (low_kept later q good.0 (omega arith) i li e)

    -- an estimate of rank c at most came from a console that had one and is outside the halt set
    came : (r : Round) (q : List Round) → Accepted o (r ∷ q) → length q ≤ o.t → (i : ℕ) → member (running o (r ∷ q)) i ≡ true
        → rank_of o (state o (r ∷ q) i).estimate ≤ c
        → (j : ℕ) × (j < o.n) × (member (running o q) j ≡ true) × (rank_of o (state o q j).estimate ≤ c) × (member (state o (r ∷ q) i).halt j ≡ false)
    came r q good l i m e =
        let j = chosen o opens r q good l i m in
        (j.0, j.1, (ok o opens r q good).heard i j.0 m j.2, omega (arith, ap (rank_of o) j.4), j.3)

    -- in the end from one that was low when the press opened
    begun : (q : List Round) → Accepted o q → length q ≤ o.t + 1 → (i : ℕ) → member (running o q) i ≡ true → rank_of o (state o q i).estimate ≤ c
        → (j : ℕ) × (j < o.n) × (low o c [] j ≡ true)
    begun [] good l i m e = (i, below o opens [] i m, grind (arith, nat_tests))
    begun (r ∷ q) good l i m e =
        let j = came r q good (omega arith) i m e in
        begun q good.0 (omega arith) j.0 j.2 j.3

    -- if nobody becomes low in a round, later estimates of rank c at most are had only by those that were low then
    confined : (later : List Round) (r : Round) (q : List Round) → Accepted o (later ++ (r ∷ q)) → length (later ++ (r ∷ q)) ≤ o.t + 1
        → ((j : ℕ) → j < o.n → low o c (r ∷ q) j ≡ true → low o c q j ≡ true)
        → (i : ℕ) → member (running o (later ++ (r ∷ q))) i ≡ true → rank_of o (state o (later ++ (r ∷ q)) i).estimate ≤ c → low o c (r ∷ q) i ≡ true
    confined [] r q good l none i m e = grind (arith, nat_tests)
    confined (s ∷ later) r q good l none i m e =
        elim (cases_Bool (low o c (r ∷ q) i)) [
          | inl f ↦ f
          | inr f ↦
              let j = came s (later ++ (r ∷ q)) good (omega arith) i m e in
              let was = none j.0 j.1 (confined later r q good.0 (omega arith) none j.0 j.2 j.3) in
              let early : length q ≤ o.t = omega (arith, first_shorter later (r ∷ q)) in
              let li = below o opens (s ∷ (later ++ (r ∷ q))) i m in
              let held = halts_low r q (first_accepted o later (r ∷ q) good.0) early i j.0 li j.1 f was in
              absurd (both_ways (member (state o (s ∷ (later ++ (r ∷ q))) i).halt j.0) j.4 (halt_kept (s ∷ later) (r ∷ q) l i j.0 j.1 m held))
        ]

    module _ (x y : ℕ) (last : Round) where
      -- y has halted all that are low after round t
      few_low : (q : List Round) → Split o c x y last q → count (low o c q) o.n ≤ o.t
      few_low q s =
          let high : low o c (last ∷ q) y ≡ false = grind (arith, nat_tests, s.y_high, s.y_done) in
          let ly = below o opens (last ∷ q) y s.y_done in
          omega (
            arith,
            s.y_few,
            count_mono (low o c q) (member (state o (last ∷ q) y).halt) o.n (λ j lj e. halts_low last q s.good (omega (arith, s.last)) y j ly lj high e),
          )

      -- x was not low before round t: all that are not low after it would have halted x, and x them
      late : (r : Round) (q : List Round) → Split o c x y last (r ∷ q) → low o c q x ≡ true → ⊥
      late r q s was =
          omega (
            arith,
            opens.few,
            s.x_few,
            few_low (r ∷ q) s,
            count-not (low o c (r ∷ q)) o.n,
            count_mono (λ j. not (low o c (r ∷ q) j)) (member (state o (last ∷ r ∷ q) x).halt) o.n back,
          )
        where
          back : (j : ℕ) → j < o.n → not (low o c (r ∷ q) j) ≡ true → member (state o (last ∷ r ∷ q) x).halt j ≡ true
          back j lj e =
              let lx = below o opens (last ∷ r ∷ q) x s.x_done in
              let held = halts_low r q s.good.0 (omega (arith, s.last)) j x lj lx (not-true (low o c (r ∷ q) j) e) was in
              grind (arith, gained o opens last (r ∷ q) (omega (arith, s.last)) x j lj s.x_done)

      -- so somebody becomes low in each round up to t
      wider : (later : List Round) (r : Round) (q : List Round) → Split o c x y last (later ++ (r ∷ q))
          → (j : ℕ) × (j < o.n) × (low o c q j ≡ false) × (low o c (r ∷ q) j ≡ true)
      wider later r q s =
          elim (extra (low o c q) (low o c (r ∷ q)) o.n) [
            | inl m ↦ m
            | inr none ↦
                let lx = below o opens (last ∷ (later ++ (r ∷ q))) x s.x_done in
                let was = confined (last ∷ later) r q s.good (omega (arith, s.last)) none x s.x_done s.x_low in
                absurd (early later s was (none x lx was))
          ]
        where
          early : (later : List Round) → Split o c x y last (later ++ (r ∷ q)) → low o c (r ∷ q) x ≡ true → low o c q x ≡ true → ⊥
          early [] s now before = late r q s before
          early (u ∷ later) s now before =
              let lx = below o opens (last ∷ u ∷ (later ++ (r ∷ q))) x s.x_done in
              late u (later ++ (r ∷ q)) s (low_kept later (r ∷ q) s.good.0.0 (omega (arith, s.last)) x lx now)

      more_low : (later q : List Round) → Split o c x y last (later ++ q) → length q < count (low o c q) o.n
      more_low later [] s =
          let j = begun (last ∷ (later ++ [])) s.good (omega (arith, s.last)) x s.x_done s.x_low in
          count_pos (low o c []) o.n j.0 j.1 j.2
      more_low later (r ∷ q) s =
          let j = wider later r q s in
          let fewer = more_low (later ++ (r ∷ [])) q (subst (Split o c x y last) (sym (append_assoc later (r ∷ []) q)) s) in
          let good = first_accepted o later (r ∷ q) s.good.0 in
          let short : length q ≤ o.t = omega (arith, s.last, first_shorter later (r ∷ q)) in
          omega (arith, count_strict (low o c q) (low o c (r ∷ q)) o.n (low_step r q good short) j.0 j.1 j.2 j.3)

      no_split : (q : List Round) → Split o c x y last q → ⊥
      no_split q s = omega (arith, s.last, few_low q s, more_low [] q s)

  -- so no two have different ranks, and authors that ran are told apart by their ranks
  pub eliminated : (rs : List Round) → Accepted o rs → length rs ≡ o.t + 1
      → (x y : ℕ) → member (running o rs) x ≡ true → member (running o rs) y ≡ true
      → count (member (state o rs x).halt) o.n ≤ o.t → count (member (state o rs y).halt) o.n ≤ o.t
      → (state o rs x).estimate ≡ (state o rs y).estimate
  eliminated [] good l x y mx my fx fy = absurd (omega arith)
  eliminated (r ∷ q) good l x y mx my fx fy =
      let a = own o opens (r ∷ q) good (omega arith) x mx in
      let b = own o opens (r ∷ q) good (omega arith) y my in
      let rx = rank-suc o a.author (state o (r ∷ q) x).estimate a.is in
      let ry = rank-suc o b.author (state o (r ∷ q) y).estimate b.is in
      let same : o.rank a.author ≡ o.rank b.author =
      elim (cases_order (o.rank a.author) (o.rank b.author)) [
        | inl e ↦ e
        | inr (inl less) ↦ absurd (no_split (o.rank a.author) x y r q (record {
          good = good;
          last = omega arith;
          x_done = mx;
          y_done = my;
          x_few = fx;
          y_few = fy;
          x_low = omega arith;
          y_high = omega arith;
        }))
        | inr (inr less) ↦ absurd (no_split (o.rank b.author) y x r q (record {
          good = good;
          last = omega arith;
          x_done = my;
          y_done = mx;
          x_few = fy;
          y_few = fx;
          x_low = omega arith;
          y_high = omega arith;
        }))
      ] in
      a.is ∙ ap suc (opens.apart a.author b.author a.author_ran b.author_ran same) ∙ sym b.is

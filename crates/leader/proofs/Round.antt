-- A round keeps what agreement rests on: that all verdicts are one estimate, which is an entry.
-- Of the leader that is named next nothing is used.
use Rattle.std.proofs.Common.{◌≡◌, ℕ, suc, ◌+◌, ◌*◌, ◌<◌, ◌≤◌, true, ◌&&◌, List, sym, ap, subst, ◌∙◌, inl, inr, arith}
use Rattle.std.specs.Prelude.{◌≢◌, ◌==◌, nat_le}
use Rattle.std.proofs.Math.Logic.{∥∥₁_map}
use Rattle.std.proofs.lemmas.Bool.{cases_lt, and_parts, eqb-true, leb-true, le-leb, ltb-true, both_ways}
use Rattle.console_sets.specs.Sets.{member}
use Rattle.console_sets.proofs.Counting.{count_mono, shared}
use Rattle.rounds.specs.Items.{at}
use Rattle.rounds.specs.Rounds.{completing}
use Rattle.rounds.specs.Laws.{RoundOk}
use Rattle.back_end.specs.Votes.{backing}
use Rattle.leader.specs.Rule.{State, is_commit, committed, named, console_after}
use Rattle.leader.specs.State.{Stamped, Single, Fresh, Locked, Backed, Entered, Estimating, Keeps}
use Rattle.leader.proofs.Row.{Top, silent, teller, led_is, foremost_is}
use Rattle.leader.proofs.Cases.{Past, Turned, led_by, followed, Went, kept, relayed, decided, turns, went}

module _ {n t running rounds steady falls : ℕ} {entries rows : List ℕ} {s after : State} (k : Keeps n t running rounds steady entries s)
    (ok : RoundOk n t running rounds falls rows)
    (rule : (c : ℕ) → after c ≡ console_after n (rounds + 1) (completing running falls) rows s c) where
  case : (c : ℕ) → Went n (rounds + 1) (completing running falls) (at rows c) s c (after c)
  case c = went n (rounds + 1) (completing running falls) rows s c (after c) (λ m. ((ok.ran c m).0, ok.itself c m)) (rule c)

  -- where estimate and stamp come from
  data From (c : ℕ) : Type 0 where
    own : (after c).estimate ≡ (s c).estimate → (after c).stamp ≡ (s c).stamp → From c
    leader : (d : ℕ) → member (completing running falls) c ≡ true → Top n (at rows c) s d → n < 2 * named n (at rows c) s d
        → (after c).estimate ≡ (s d).estimate → (after c).stamp ≡ rounds + 1 → From c
    latest : (d : ℕ) → member (completing running falls) c ≡ true → Top n (at rows c) s d
        → (after c).estimate ≡ (s d).estimate → (after c).stamp ≡ (s d).stamp → From c

  from : (c : ℕ) → From c
  from c = go (case c)
    where
      go : Went n (rounds + 1) (completing running falls) (at rows c) s c (after c) → From c
      go (kept w e) = own (ap (λ x. x.estimate) e) (ap (λ x. x.stamp) e)
      go (relayed d i e) = own (ap (λ x. x.estimate) e) (ap (λ x. x.stamp) e)
      go (decided m v i g h e) = own (ap (λ x. x.estimate) e) (ap (λ x. x.stamp) e)
      go (turns m p (led_by d l e)) =
          let h = led_is n (at rows c) s d l in leader d m h.0 h.1 (ap (λ x. x.estimate) e) (ap (λ x. x.stamp) e)
      go (turns m p (followed d l f e)) = latest d m (foremost_is n (at rows c) s d f) (ap (λ x. x.estimate) e) (ap (λ x. x.stamp) e)

  pub stamped_after : Stamped (rounds + 1) after
  stamped_after c = go (from c)
    where
      go : From c → (after c).stamp ≤ rounds + 1
      go (own e f) = omega (arith, f, k.stamped c)
      go (leader d m a b e f) = omega (arith, f)
      go (latest d m a e f) = omega (arith, f, k.stamped d)

  -- an estimate after the round with its stamp, where this is of an earlier round and where it is of this one
  older : (c : ℕ) → (after c).stamp ≤ rounds → From c → (d : ℕ) × ((after c).estimate ≡ (s d).estimate) × ((after c).stamp ≡ (s d).stamp)
  older c l (own e f) = (c, e, f)
  older c l (leader d m a b e f) = absurd (omega (arith, l, f))
  older c l (latest d m a e f) = (d, e, f)

  newer : (c : ℕ) → rounds < (after c).stamp → From c → (d : ℕ) × ((after c).estimate ≡ (s d).estimate) × (n < 2 * named n (at rows c) s d)
  newer c l (own e f) = absurd (omega (arith, l, f, k.stamped c))
  newer c l (leader d m a b e f) = (d, e, b)
  newer c l (latest d m a e f) = absurd (omega (arith, l, f, k.stamped d))

  -- two majorities name one leader
  one_leader : (p q d e : ℕ) → n < 2 * named n p s d → n < 2 * named n q s e → d ≡ e
  one_leader p q d e a b =
      let m = shared (λ i. member p i && (s i).leader == suc d) (λ i. member q i && (s i).leader == suc e) n (omega (arith, a, b)) in
      let x = eqb-true (s m.0).leader (suc d) (and_parts (member p m.0) _ m.2).1 in
      let y = eqb-true (s m.0).leader (suc e) (and_parts (member q m.0) _ m.3).1 in
      omega (arith, x, y)

  pub single_after : Single after
  single_after c d h =
      elim (cases_lt rounds (after c).stamp) [
        | inl l ↦
            let x = newer c l (from c) in
            let y = newer d (omega (arith, l, h.1)) (from d) in
            x.1 ∙ ap (λ i. (s i).estimate) (one_leader (at rows c) (at rows d) x.0 y.0 x.2 y.2) ∙ sym y.1
        | inr l ↦
            let x = older c l (from c) in
            let y = older d (omega (arith, l, h.1)) (from d) in
            x.1 ∙ k.single x.0 y.0 (omega (arith, h.0, x.2), sym x.2 ∙ h.1 ∙ y.2) ∙ sym y.1
      ]

  -- whose estimate a console has after the round: that of a console that ran, if it completes the round
  whose : (c : ℕ) → From c → (d : ℕ) × ((after c).estimate ≡ (s d).estimate) × (member (completing running falls) c ≡ true → member running d ≡ true)
  whose c (own e f) = (c, e, λ m. (ok.ran c m).1)
  whose c (leader d m a b e f) = (d, e, λ m. ok.heard c d m a.heard)
  whose c (latest d m a e f) = (d, e, λ m. ok.heard c d m a.heard)

  pub estimating_after : Estimating (completing running falls) after
  estimating_after c m z = let w = whose c (from c) in k.estimating w.0 (w.2 m) (sym w.1 ∙ z)

  pub entered_after : Entered n entries after
  entered_after c x =
      let w = whose c (from c) in
      subst (λ (v : ℕ). 0 < backing n entries v) (sym w.1) (k.entered w.0 (λ z. x (w.1 ∙ z)))

  -- a completing console that has no verdict after the round came by rule 3 or 4
  pub undecided : (c : ℕ) → member (completing running falls) c ≡ true → (after c).verdict ≡ 0
      → Past n (at rows c) s (s c) × Turned n (rounds + 1) (at rows c) s (after c)
  undecided c m z = go (case c)
    where
      go : Went n (rounds + 1) (completing running falls) (at rows c) s c (after c) → Past n (at rows c) s (s c) × Turned n (rounds + 1) (at rows c) s (after c)
      go (kept w e) = absurd (w m (sym (ap (λ x. x.verdict) e) ∙ z))
      go (relayed d i e) = absurd (teller n (at rows c) s d i (sym (ap (λ x. x.verdict) e) ∙ z))
      go (decided f v i g h e) = absurd (k.estimating c (ok.ran c m).1 (sym (ap (λ x. x.verdict) e) ∙ z))
      go (turns f p t) = (p, t)

  pub fresh_after : Fresh (rounds + 1) (completing running falls) after
  fresh_after c h = go (undecided c h.0 h.1).1
    where
      go : Turned n (rounds + 1) (at rows c) s (after c) → ((after c).stamp ≡ rounds + 1) × (0 < rounds + 1)
      go (led_by d l e) = (ap (λ x. x.stamp) e, omega arith)
      go (followed d l f e) = absurd (both_ways (is_commit (after c).kind) (ap (λ x. is_commit x.kind) e) h.2)

  -- ---- locked estimates

  -- a console with the highest stamp of a row has a locked estimate
  topped : (v c d : ℕ) → member (completing running falls) c ≡ true → (x : Locked n s v) → Top n (at rows c) s d
      → (x.from ≤ (s d).stamp) × ((s d).estimate ≡ v)
  topped v c d m x a =
      let e = shared (member (at rows c)) (λ i. nat_le x.from (s i).stamp) n (omega (arith, x.many, ok.long c m, k.served)) in
      let up : x.from ≤ (s d).stamp = omega (arith, leb-true x.from (s e.0).stamp e.3, a.highest e.0 e.1 e.2) in
      (up, x.only d a.below up)

  -- a locked estimate stays locked
  locked_after : (v : ℕ) → Locked n s v → Locked n after v
  locked_after v x = record {
    from = x.from;
    many = omega (
      arith,
      x.many,
      count_mono (λ d. nat_le x.from (s d).stamp) (λ d. nat_le x.from (after d).stamp) n
          (λ c l e. le-leb x.from (after c).stamp (up c (leb-true x.from (s c).stamp e) (from c))),
    );
    only = λ c l h. only c l h (from c);
  }
    where
      up : (c : ℕ) → x.from ≤ (s c).stamp → From c → x.from ≤ (after c).stamp
      up c h (own e f) = omega (arith, h, f)
      up c h (leader d m a b e f) = omega (arith, h, f, k.stamped c)
      up c h (latest d m a e f) = omega (arith, f, (topped v c d m x a).0)

      only : (c : ℕ) → c < n → x.from ≤ (after c).stamp → From c → (after c).estimate ≡ v
      only c l h (own e f) = e ∙ x.only c l (omega (arith, h, f))
      only c l h (leader d m a b e f) = e ∙ (topped v c d m x a).1
      only c l h (latest d m a e f) = e ∙ (topped v c d m x a).1

  -- where more than n/2 in a row have committed and nobody there has a verdict, the estimate of any one of them is locked
  pub locks : (c : ℕ) → member (completing running falls) c ≡ true → (s c).verdict ≡ 0 → ((d : ℕ) → d < n → member (at rows c) d ≡ true → (s d).verdict ≡ 0)
      → is_commit (s c).kind ≡ true → n < 2 * committed n (at rows c) s → Locked n s (s c).estimate
  locks c m v none g many = record {
    from = rounds;
    many = omega (
      arith,
      many,
      count_mono (λ d. member (at rows c) d && is_commit (s d).kind) (λ d. nat_le rounds (s d).stamp) n
          (λ d l e. le-leb rounds (s d).stamp (omega (arith, new d l e))),
    );
    only = λ d l h. k.single d c (omega (arith, mine.0, mine.1, h), omega (arith, mine.0, k.stamped d, h));
  }
    where
      mine : ((s c).stamp ≡ rounds) × (0 < rounds)
      mine = k.fresh c ((ok.ran c m).1, v, g)

      new : (d : ℕ) → d < n → (member (at rows c) d && is_commit (s d).kind) ≡ true → (s d).stamp ≡ rounds
      new d l e =
          let p = and_parts (member (at rows c) d) (is_commit (s d).kind) e in
          (k.fresh d (ok.heard c d m p.0, none d l p.0, p.1)).0

  -- a verdict after the round was locked before it
  origin : (c : ℕ) → (after c).verdict ≢ 0 → Went n (rounds + 1) (completing running falls) (at rows c) s c (after c) → ∥ Locked n s (after c).verdict ∥₁
  origin c x (kept w e) =
      let v = ap (λ y. y.verdict) e in subst (λ (u : ℕ). ∥ Locked n s u ∥₁) (sym v) (k.backed c (λ z. x (v ∙ z)))
  origin c x (relayed d i e) =
      subst (λ (u : ℕ). ∥ Locked n s u ∥₁) (sym (ap (λ y. y.verdict) e)) (k.backed d (teller n (at rows c) s d i))
  origin c x (decided m v i g h e) =
      subst (λ (u : ℕ). ∥ Locked n s u ∥₁) (sym (ap (λ y. y.verdict) e))
      ∣ locks c m v (silent n (at rows c) s i) g (ltb-true n (2 * committed n (at rows c) s) h) ∣₁
  origin c x (turns m p (led_by d l e)) = absurd (x (ap (λ y. y.verdict) e))
  origin c x (turns m p (followed d l f e)) = absurd (x (ap (λ y. y.verdict) e))

  pub backed_after : Backed n after
  backed_after c x = ∥∥₁_map (origin c x (case c)) (locked_after (after c).verdict)

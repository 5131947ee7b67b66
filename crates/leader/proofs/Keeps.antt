-- What every state keeps holds as a start leaves it, and a round carries it on.
use Rattle.std.proofs.Common.{◌≡◌, ℕ, ◌+◌, ◌*◌, ◌^◌, ◌<◌, ◌≤◌, Bool, true, false, cond, List, [], map, None, refl, sym, ap, subst, ◌∙◌, inl, inr, arith}
use Rattle.std.proofs.lemmas.Bool.{cases_Bool, cond-true, cond-false, both_ways, ltb-true}
use Rattle.console_sets.specs.Bound.{max_consoles}
use Rattle.console_sets.specs.Sets.{member}
use Rattle.console_sets.proofs.Digits.{member_below, member_none}
use Rattle.rounds.specs.Items.{at}
use Rattle.rounds.specs.Rounds.{completing, steady_round}
use Rattle.rounds.specs.Checks.{make_refusal, round_refusal}
use Rattle.rounds.specs.Laws.{StartOk, RoundOk, Steady}
use Rattle.rounds.proofs.Accepted.{make_ok, round_ok, steady_ok}
use Rattle.back_end.specs.Meaning.{Meaning}
use Rattle.back_end.specs.Kept.{meaning_with, Makes, Starts, Advances}
use Rattle.back_end.specs.declared.progress.Progress.{Progress}
use Rattle.back_end.specs.Calls.{Blank, Made, Started, Gained, Rounded}
use Rattle.back_end.specs.Votes.{backing}
use Rattle.back_end.proofs.Ballots.{backed}
use Rattle.back_end.proofs.Next.{rounded_is}
use Rattle.leader.specs.Rule.{leader_serves, State, is_commit, opening, who, console_after, Opened, LeaderRound}
use Rattle.leader.specs.State.{Keeps}
use Rattle.leader.specs.Means.{leader_meaning}
use Rattle.leader.specs.Agreement.{verdict_at}
use Rattle.leader.specs.declared.console.Console.{Console}
use Rattle.leader.specs.declared.state.Leader.{Leader}
use Rattle.leader.proofs.Cases.{stays, others}
use Rattle.leader.proofs.Invariant.{Kept, keeps}
use Rattle.leader.proofs.Round.{stamped_after, single_after, fresh_after, backed_after, entered_after, estimating_after}
use Rattle.leader.proofs.Steady.{alike, present_after, committed_after, settled_after}

pub no_verdicts : (entries : List ℕ) (consoles : List Console) → Opened entries consoles → Blank (map (λ x. x.verdict) consoles)
no_verdicts entries consoles opens c = verdict_at consoles c ∙ ap (λ (x : Console). x.verdict) (opens c)

-- ---- a start

-- where nothing is done yet, and the entries are those of the running consoles
opened_keeps : (n t running : ℕ) (entries : List ℕ) (s : State) → 2 * t < n → running < 2 ^ n
    → ((c : ℕ) → member running c ≡ true → 0 < at entries c) → ((c : ℕ) → member running c ≡ false → at entries c ≡ 0)
    → ((c : ℕ) → s c ≡ opening (at entries c)) → Keeps n t running 0 0 entries s
opened_keeps n t running entries s served within runs idle opens = record {
  served = served;
  stamped = λ c. omega (arith, stamp c);
  single = λ c d h. absurd (omega (arith, stamp c, h.0));
  fresh = λ c h. absurd (both_ways (is_commit (s c).kind) (ap (λ (x : Console). is_commit x.kind) (opens c)) h.2);
  backed = λ c x. absurd (x (ap (λ (y : Console). y.verdict) (opens c)));
  entered = λ c x.
      elim (cases_Bool (member running c)) [
        | inl m ↦ subst (λ (v : ℕ). 0 < backing n entries v) (sym (estimate c)) (backed n entries c (member_below n running c within m))
        | inr m ↦ absurd (x (estimate c ∙ idle c m))
      ];
  estimating = λ c m z. omega (arith, runs c m, sym (estimate c) ∙ z);
  even = λ c d h. absurd (omega (arith, h.0));
  naming = λ c d h. absurd (omega (arith, h.0));
  present = λ c h. absurd (omega (arith, h.0));
  committed = λ c h. absurd (omega (arith, h.0));
  settled = λ h. absurd (omega (arith, h));
}
  where
    stamp : (c : ℕ) → (s c).stamp ≡ 0
    stamp c = ap (λ (x : Console). x.stamp) (opens c)

    estimate : (c : ℕ) → (s c).estimate ≡ at entries c
    estimate c = ap (λ (x : Console). x.estimate) (opens c)

-- the same of a meaning
fresh_keeps : (m : Meaning) (s : State) → m.rounds ≡ 0 → m.steady ≡ 0 → Keeps m.n m.t m.running 0 0 m.entries s → Kept m s
fresh_keeps m s new none k =
    subst (λ (x : ℕ). Keeps m.n m.t m.running x m.steady m.entries s) (sym new)
    (subst (λ (x : ℕ). Keeps m.n m.t m.running 0 x m.entries s) (sym none) k)

-- what serves n and t
serves : (n t : ℕ) → make_refusal (leader_serves n t) n t ≡ None → 2 * t < n
serves n t e = ltb-true (2 * t) n (make_ok (leader_serves n t) n t e).0

pub made_keeps : (n t : ℕ) (s : State) (m : Meaning) → Made n t m → make_refusal (leader_serves n t) n t ≡ None → m.running < 2 ^ m.n
    → ((c : ℕ) → s c ≡ opening (at m.entries c)) → Kept m s
made_keeps n t s m r e within opens =
    fresh_keeps m s r.no_rounds r.not_steady
    (opened_keeps m.n m.t m.running m.entries s (omega (arith, r.for_n, r.for_t, serves n t e)) within runs (λ c x. r.no_entries c) opens)
  where
    runs : (c : ℕ) → member m.running c ≡ true → 0 < at m.entries c
    runs c x = absurd (both_ways (member 0 c) (member_none c) (sym (ap (λ (y : ℕ). member y c) r.nobody_runs) ∙ x))

pub started_keeps : (running : ℕ) (entries : List ℕ) (s : State) (before after : Meaning) → Started running entries before after
    → 2 * before.t < before.n → StartOk before.n before.t running entries → after.running < 2 ^ after.n
    → ((c : ℕ) → s c ≡ opening (at after.entries c)) → Kept after s
started_keeps running entries s before after r served ok within opens =
    fresh_keeps after s r.no_rounds r.not_steady
    (opened_keeps after.n after.t after.running after.entries s (omega (arith, r.same_n, r.same_t)) within runs idle opens)
  where
    runs : (c : ℕ) → member after.running c ≡ true → 0 < at after.entries c
    runs c e =
        let m : member running c ≡ true = sym (ap (λ (x : ℕ). member x c) r.runs) ∙ e in
        omega (arith, (ok.author c m).0, r.enters c ∙ cond-true (member running c) _ _ m)

    idle : (c : ℕ) → member after.running c ≡ false → at after.entries c ≡ 0
    idle c e = r.enters c ∙ cond-false (member running c) _ _ (sym (ap (λ (x : ℕ). member x c) r.runs) ∙ e)

-- ---- a round

-- verdicts that stand stay, and only a completing console gains one
pub gained : (n k running falls : ℕ) (rows : List ℕ) (before after : List Console) → LeaderRound n k (completing running falls) rows before after
    → Gained running falls (map (λ x. x.verdict) before) (map (λ x. x.verdict) after)
gained n k running falls rows before after round = record {
  keeps = λ c x. same c (stays n k (completing running falls) rows (who before) c (λ z. x (verdict_at before c ∙ z)));
  others = λ c m. same c (others n k (completing running falls) rows (who before) c m);
}
  where
    same : (c : ℕ) → console_after n k (completing running falls) rows (who before) c ≡ who before c
        → at (map (λ x. x.verdict) after) c ≡ at (map (λ x. x.verdict) before) c
    same c e = verdict_at after c ∙ ap (λ (x : Console). x.verdict) (round c ∙ e) ∙ sym (verdict_at before c)

-- the round in the terms of the progress before it, and what it does to the meaning
module _ (p p' : Progress) (falls : ℕ) (rows : List ℕ) (before after : List Console)
    (goes : Advances falls rows p p') (round : LeaderRound p'.n p'.rounds p'.running rows before after) where
  pub as_begun : LeaderRound p.n (p.rounds + 1) (completing p.running falls) rows before after
  as_begun =
      let r = goes [] [] (record { keeps = λ c x. refl; others = λ c m. refl }) in
      subst (λ (n : ℕ). LeaderRound n (p.rounds + 1) (completing p.running falls) rows before after) r.same_n
      (subst (λ (k : ℕ). LeaderRound p'.n k (completing p.running falls) rows before after) r.one_more
      (subst (λ (x : ℕ). LeaderRound p'.n p'.rounds x rows before after) r.runs round))

  pub as_meant : Rounded falls rows (meaning_with p (map (λ x. x.verdict) before)) (meaning_with p' (map (λ x. x.verdict) after))
  as_meant = goes _ _ (gained p.n (p.rounds + 1) p.running falls rows before after as_begun)

-- a steady count after a round
counted : (b : Bool) (steady m : ℕ) → m < cond b (steady + 1) 0 → (b ≡ true) × (m ≤ steady)
counted true steady m h = (refl, omega arith)
counted false steady m h = absurd (omega arith)

next_keeps : (n t running rounds steady falls : ℕ) (entries rows : List ℕ) (s after : State) → n ≤ max_consoles → running < 2 ^ n
    → RoundOk n t running rounds falls rows → ((c : ℕ) → after c ≡ console_after n (rounds + 1) (completing running falls) rows s c)
    → Keeps n t running rounds steady entries s
    → Keeps n t (completing running falls) (rounds + 1) (cond (steady_round n running falls rows) (steady + 1) 0) entries after
next_keeps n t running rounds steady falls entries rows s after few within ok rule k = record {
  served = k.served;
  stamped = stamped_after k ok rule;
  single = single_after k ok rule;
  fresh = fresh_after k ok rule;
  backed = backed_after k ok rule;
  entered = entered_after k ok rule;
  estimating = estimating_after k ok rule;
  even = λ c d h. ap (λ (x : Console). x.stamp) (alike k ok rule (steadily 0 h.0) h.1 c d h.2 h.3);
  naming = λ c d h. ap (λ (x : Console). x.leader) (alike k ok rule (steadily 0 h.0) h.1 c d h.2 h.3);
  present = λ c h. present_after k ok rule (steadily 0 h.0) h.1 few c h.2;
  committed = λ c h. committed_after k ok rule (steadily 1 h.0) h.1 (more 1 h.0) c h.2;
  settled = λ h c m. settled_after k ok rule (steadily 2 h) (more 2 h) c m;
}
  where
    steadily : (m : ℕ) → m < cond (steady_round n running falls rows) (steady + 1) 0 → Steady running falls rows
    steadily m h = steady_ok n running falls rows within (counted (steady_round n running falls rows) steady m h).0

    more : (m : ℕ) → m < cond (steady_round n running falls rows) (steady + 1) 0 → m ≤ steady
    more m h = (counted (steady_round n running falls rows) steady m h).1

pub round_keeps : (falls : ℕ) (rows : List ℕ) (s after : State) (before m : Meaning) → Rounded falls rows before m
    → before.n ≤ max_consoles → before.running < 2 ^ before.n → RoundOk before.n before.t before.running before.rounds falls rows
    → ((c : ℕ) → after c ≡ console_after before.n (before.rounds + 1) (completing before.running falls) rows s c)
    → Kept before s → Kept m after
round_keeps falls rows s after before m r few within ok rule k =
    subst (λ (x : Meaning). Kept x after) (sym (rounded_is falls rows before m r))
    (next_keeps before.n before.t before.running before.rounds before.steady falls before.entries rows s after few within ok rule k)

-- ---- the calls

pub as_made : (n t : ℕ) (p : Progress) (consoles : List Console) → Makes n t p → Opened p.entries consoles → Made n t (meaning_with p (map (λ x. x.verdict) consoles))
as_made n t p consoles makes opens = makes _ (no_verdicts p.entries consoles opens)

pub as_started : (b : Leader) (running : ℕ) (entries : List ℕ) (p : Progress) (consoles : List Console)
    → Starts running entries b.progress p → Opened p.entries consoles → Started running entries (leader_meaning b) (meaning_with p (map (λ x. x.verdict) consoles))
as_started b running entries p consoles starts opens = starts _ _ (no_verdicts p.entries consoles opens)

pub advanced_keeps : (b : Leader) (falls : ℕ) (rows : List ℕ) (p : Progress) (after : List Console) → Advances falls rows b.progress p
    → LeaderRound p.n p.rounds p.running rows b.consoles after
    → round_refusal b.progress.n b.progress.t b.progress.running b.progress.rounds falls rows ≡ None
    → Keeps p.n p.t p.running p.rounds p.steady p.entries (who after)
advanced_keeps b falls rows p after goes round accepted =
    let q = b.progress in
    round_keeps falls rows (who b.consoles) (who after) (leader_meaning b) (meaning_with p (map (λ x. x.verdict) after))
    (as_meant q p falls rows b.consoles after goes round) q.few q.within (round_ok q.n q.t q.running q.rounds falls rows q.within accepted)
    (as_begun q p falls rows b.consoles after goes round) (keeps b)

-- Three steady rounds, one after the other, give every running console a verdict.
-- Of the leader that is named next two facts are used: the row alone tells who it is, and it is in the row.
use Rattle.std.specs.Prelude.{◌≡◌, ℕ, zero, suc, ◌+◌, ◌-◌, ◌*◌, ◌<◌, ◌≤◌, true, ◌&&◌, ◌≢◌, List, ◌==◌, refl}
use Rattle.std.proofs.Common.{sym, ap, subst, ◌∙◌, inl, inr, arith}
use Rattle.std.proofs.lemmas.Bool.{cases_eq, and_from, eq-eqb, lt-ltb, both_ways}
use Rattle.console_sets.specs.Bound.{max_consoles}
use Rattle.console_sets.specs.Sets.{count, member}
use Rattle.console_sets.proofs.Counting.{count_mono}
use Rattle.rounds.specs.Rounds.{completing}
use Rattle.rounds.specs.Laws.{RoundOk, Steady}
use Rattle.leader.specs.Rule.{State, is_commit, committed, named, led, turned, console_after}
use Rattle.leader.specs.State.{Quiet, Keeps}
use Rattle.leader.specs.declared.console.Console.{Console}
use Rattle.leader.proofs.Row.{Top, silent, is_led, next_in}
use Rattle.leader.proofs.Cases.{Past, Turned, led_by, followed, stays, turned_leads, turned_follows, turned_names}
use Rattle.leader.proofs.Round.{undecided}

module _ {n t running rounds steady falls : ℕ} {entries rows : List ℕ} {s after : State} (k : Keeps n t running rounds steady entries s)
    (ok : RoundOk n t running rounds falls rows)
    (rule : (c : ℕ) → after c ≡ console_after n (rounds + 1) (completing running falls) rows s c) (steadily : Steady running falls rows) where
  completes : (c : ℕ) → member running c ≡ true → member (completing running falls) c ≡ true
  completes c m = ap (λ (r : ℕ). member r c) steadily.all_complete ∙ m

  -- who has no verdict came by rule 3 or 4, in the row that all have
  undecided_in : (c : ℕ) → member (completing running falls) c ≡ true → (after c).verdict ≡ 0
      → Past n running s (s c) × Turned n (rounds + 1) running s (after c)
  undecided_in c m z =
      subst (λ (r : ℕ). Past n r s (s c) × Turned n (rounds + 1) r s (after c)) (steadily.even c (ok.ran c m).1) (undecided k ok rule c m z)

  many : n ≤ count (member running) n + t
  many = subst (λ (r : ℕ). n ≤ count (member r) n + t) steadily.all_complete ok.enough

  module _ (quiet : Quiet (completing running falls) after) where
    -- where there is no verdict after the round, there was none before
    quiet_before : Quiet running s
    quiet_before c m =
        elim (cases_eq (s c).verdict 0) [
          | inl z ↦ z
          | inr x ↦
              absurd (x (sym (ap (λ (y : Console). y.verdict) (rule c ∙ stays n (rounds + 1) (completing running falls) rows s c x)) ∙ quiet c (completes c m)))
        ]

    -- and by rule 3 or 4 all have become the same
    turn : (c : ℕ) → member (completing running falls) c ≡ true → after c ≡ turned n (rounds + 1) running s
    turn c m = go (undecided_in c m (quiet c m)).1
      where
        go : Turned n (rounds + 1) running s (after c) → after c ≡ turned n (rounds + 1) running s
        go (led_by d l e) = e ∙ sym (turned_leads n (rounds + 1) running s d l)
        go (followed d l h e) = e ∙ sym (turned_follows n (rounds + 1) running s d l h)

    pub alike : (c d : ℕ) → member (completing running falls) c ≡ true → member (completing running falls) d ≡ true → after c ≡ after d
    alike c d p q = turn c p ∙ sym (turn d q)

    pub present_after : n ≤ max_consoles → (c : ℕ) → member (completing running falls) c ≡ true
        → (0 < (after c).leader) × (member (completing running falls) ((after c).leader - 1) ≡ true)
    present_after few c m =
        let d = next_in running c (omega (arith, (ok.ran c m).0)) (ok.ran c m).1 in
        let e : (after c).leader ≡ suc d.0 = ap (λ (y : Console). y.leader) (turn c m) ∙ turned_names n (rounds + 1) running s (led n running s) ∙ d.1 in
        let less : (after c).leader - 1 ≡ d.0 = omega arith in
        (omega arith, ap (λ (i : ℕ). member (completing running falls) i) less ∙ completes d.0 d.2)

    -- where they were alike and named one of them, they commit
    pub committed_after : 0 < steady → (c : ℕ) → member (completing running falls) c ≡ true → is_commit (after c).kind ≡ true
    committed_after one c m = go (led n running s) refl
      where
        ran : member running c ≡ true
        ran = (ok.ran c m).1

        named_by : (d : ℕ) → member running d ≡ true → (s d).leader ≡ suc ((s c).leader - 1)
        named_by d r = omega (arith, k.naming d c (one, quiet_before, r, ran), (k.present c (one, quiet_before, ran)).0)

        top : Top n running s ((s c).leader - 1)
        top =
            let in_it = (k.present c (one, quiet_before, ran)).1 in
            record {
              below = (ok.ran ((s c).leader - 1) (completes ((s c).leader - 1) in_it)).0;
              heard = in_it;
              highest = λ d l r. omega (arith, k.even d ((s c).leader - 1) (one, quiet_before, r, in_it));
            }

        all_name : count (member running) n ≤ named n running s ((s c).leader - 1)
        all_name =
            count_mono (member running) (λ d. member running d && (s d).leader == suc ((s c).leader - 1)) n
            (λ d l r. and_from (member running d) _ r (eq-eqb (s d).leader (suc ((s c).leader - 1)) (named_by d r)))

        go : (l : ℕ) → led n running s ≡ l → is_commit (after c).kind ≡ true
        go zero e = absurd (is_led n running s ((s c).leader - 1) top (omega (arith, many, all_name, k.served)) e)
        go (suc d) e = ap (λ (y : Console). is_commit y.kind) (turn c m ∙ turned_leads n (rounds + 1) running s d e)

  -- where all have committed, or one has a verdict, each has a verdict
  pub settled_after : 1 < steady → (c : ℕ) → member (completing running falls) c ≡ true → (after c).verdict ≢ 0
  settled_after two c m z =
      let p = (undecided_in c m z).0 in
      let quiet : Quiet running s = λ d r. silent n running s p.untold d (ok.ran d (completes d r)).0 r in
      let all_did = count_mono (member running) (λ d. member running d && is_commit (s d).kind) n
      (λ d l r. and_from (member running d) _ r (k.committed d (two, quiet, r))) in
      both_ways _ p.undecided
      (and_from (is_commit (s c).kind) _ (k.committed c (two, quiet, (ok.ran c m).1)) (lt-ltb n (2 * committed n running s) (omega (arith, many, all_did, k.served))))

-- The laws of a back end: all verdicts are one estimate, which is an entry, and enough steady rounds give each running console one.
use Rattle.std.specs.Prelude.{◌≡◌, ℕ, ◌<◌, false, List, map, ◌≢◌, nat_eq, nat_le}
use Rattle.std.proofs.Common.{sym, subst, ◌∙◌, arith}
use Rattle.std.proofs.Math.ListN.{get_or-map}
use Rattle.std.proofs.Math.Logic.{∥∥₁_elim}
use Rattle.std.proofs.Math.Bool.{Bool-set}
use Rattle.std.proofs.Math.Nat.{ℕ_set}
use Rattle.std.proofs.lemmas.Bool.{eqb-false, ne_eqb, leb-true}
use Rattle.console_sets.proofs.Counting.{member_of_count, shared}
use Rattle.rounds.specs.Items.{at}
use Rattle.back_end.specs.Laws.{Agrees, Settles}
use Rattle.back_end.specs.Votes.{backing}
use Rattle.back_end.proofs.Ballots.{backer}
use Rattle.leader.specs.Rule.{State, opening, who}
use Rattle.leader.specs.State.{Locked, Backed, Entered}
use Rattle.leader.specs.Means.{leader_meaning}
use Rattle.leader.specs.declared.console.Console.{Console}
use Rattle.leader.specs.declared.state.Leader.{Leader}

-- two locked estimates are one
locked_one : (n : ℕ) (s : State) (v w : ℕ) → Locked n s v → Locked n s w → v ≡ w
locked_one n s v w a b =
    let m = shared (λ d. nat_le a.from (s d).stamp) (λ d. nat_le b.from (s d).stamp) n (omega (arith, a.many, b.many)) in
    sym (a.only m.0 m.1 (leb-true a.from (s m.0).stamp m.2)) ∙ b.only m.0 m.1 (leb-true b.from (s m.0).stamp m.3)

pub one_verdict : (n : ℕ) (s : State) → Backed n s → (c d : ℕ) → (s c).verdict ≢ 0 → (s d).verdict ≢ 0 → (s c).verdict ≡ (s d).verdict
one_verdict n s backed c d x y =
    ∥∥₁_elim (backed c x) (ℕ_set _ _) (λ a. ∥∥₁_elim (backed d y) (ℕ_set _ _) (λ b. locked_one n s (s c).verdict (s d).verdict a b))

-- a locked estimate is one that a console has
holder : (n : ℕ) (s : State) (v : ℕ) → Locked n s v → (d : ℕ) × (d < n) × ((s d).estimate ≡ v)
holder n s v k =
    let m = member_of_count (λ d. nat_le k.from (s d).stamp) n (omega (arith, k.many)) in
    (m.0, m.1, k.only m.0 m.1 (leb-true k.from (s m.0).stamp m.2))

pub an_entry : (n : ℕ) (entries : List ℕ) (s : State) → Entered n entries s → Backed n s
    → (c : ℕ) → (s c).verdict ≢ 0 → (d : ℕ) × (d < n) × (at entries d ≡ (s c).verdict)
an_entry n entries s entered backed c x =
    let some : nat_eq (backing n entries (s c).verdict) 0 ≡ false =
    ∥∥₁_elim (backed c x) (Bool-set _ _) (λ k.
    let h = holder n s (s c).verdict k in
    let l = subst (λ (v : ℕ). 0 < backing n entries v) h.2 (entered h.0 (λ z. x (sym h.2 ∙ z))) in
    ne_eqb (backing n entries (s c).verdict) 0 (λ z. omega arith)) in
    let ne : backing n entries (s c).verdict ≢ 0 = eqb-false _ 0 some in
    backer n entries (s c).verdict (omega arith)

-- ---- said of a Leader

-- the verdicts as a list
pub verdict_at : (consoles : List Console) (c : ℕ) → at (map (λ x. x.verdict) consoles) c ≡ (who consoles c).verdict
verdict_at consoles c = get_or-map (λ (x : Console). x.verdict) consoles c (opening 0)

pub leader_agrees : (b : Leader) → Agrees (leader_meaning b)
leader_agrees b = record {
  one_verdict = λ c d x y.
      let v = verdict_at b.consoles in
      v c ∙ one_verdict b.progress.n (who b.consoles) b.keeps.backed c d (λ z. x (v c ∙ z)) (λ z. y (v d ∙ z)) ∙ sym (v d);
  an_entry = λ c x.
      let v = verdict_at b.consoles c in
      let d = an_entry b.progress.n b.progress.entries (who b.consoles) b.keeps.entered b.keeps.backed c (λ z. x (v ∙ z)) in
      (d.0, d.1, d.2 ∙ sym v);
}

pub leader_settles : (b : Leader) → Settles 2 (leader_meaning b)
leader_settles b l c m z = b.keeps.settled l c m (sym (verdict_at b.consoles c) ∙ z)

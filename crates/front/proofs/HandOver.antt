-- What round t + 2 hands over: one author at most among the decisions, which is then every entry, and only authors that ran when the press opened.
use Rattle.std.proofs.Common.{◌≡◌, ℕ, ◌+◌, ◌<◌, true, false, ◌≢◌, List, [], ◌∷◌, length, sym, ap, ◌∙◌, inl, inr, arith}
use Rattle.std.proofs.lemmas.Bool.{cases_Bool, both_ways, cond-true, cond-false}
use Rattle.console_sets.specs.Sets.{member}
use Rattle.console_sets.proofs.Counting.{shared}
use Rattle.rounds.specs.Items.{at}
use Rattle.front.specs.declared.consoles.Console.{Console}
use Rattle.front.specs.declared.deciding.Outcome.{Outcome}
use Rattle.front.specs.Consoles.{State}
use Rattle.front.specs.Deciding.{present, outcome_of, deciding, entry, after_deciding, entries_after}
use Rattle.front.specs.Runs.{Opening, Round, running, state, entries, Sound, Accepted}
use Rattle.front.specs.Laws.{HandedOver}
use Rattle.front.proofs.Steps.{state_deciding, entries_deciding, below, ok, ran, halt_within, undecided, Own, own}
use Rattle.front.proofs.NewEstimates.{few_halted}
use Rattle.front.proofs.Eliminated.{eliminated}
use Rattle.front.proofs.Outcomes.{Given, decides, enters, alone, given}

module _ (o : Opening) (opens : Sound o) (r : Round) (q : List Round) (good : Accepted o (r ∷ q)) (last : length q ≡ o.t + 1) where
  -- what the round leaves a console that completes it, and its entry
  pub decided : (c : ℕ) → member (running o (r ∷ q)) c ≡ true → (x : Outcome) → outcome_of o.n o.t (at r.rows c) (state o q) c ≡ x
      → state o (r ∷ q) c ≡ deciding o.t (state o q c) x
  unfolding after_deciding
  decided c m x e =
      ap (λ (s : State). s c) (state_deciding o r q last) ∙ cond-true (member (running o (r ∷ q)) c) _ _ m ∙ ap (deciding o.t (state o q c)) e

  entered_with : (c : ℕ) → member (running o (r ∷ q)) c ≡ true → (x : Outcome) → outcome_of o.n o.t (at r.rows c) (state o q) c ≡ x
      → entries o (r ∷ q) c ≡ entry x
  unfolding entries_after
  entered_with c m x e =
      entries_deciding o r q last c ∙ cond-true (member (running o (r ∷ q)) c) _ _ m ∙ ap entry e

  -- who does not complete the round has no decision after it, and no entry
  fell : (c : ℕ) → member (running o (r ∷ q)) c ≡ false → (state o (r ∷ q) c).decision ≡ 0
  unfolding after_deciding
  fell c m =
      ap (λ (s : State). (s c).decision) (state_deciding o r q last) ∙ ap (λ (x : Console). x.decision) (cond-false (member (running o (r ∷ q)) c) _ _ m)
      ∙ undecided o opens q (omega arith) c

  pub no_entry : (c : ℕ) → member (running o (r ∷ q)) c ≡ false → entries o (r ∷ q) c ≡ 0
  unfolding entries_after
  no_entry c m = entries_deciding o r q last c ∙ cond-false (member (running o (r ∷ q)) c) _ _ m

  pub given_at : (c : ℕ) → member (running o (r ∷ q)) c ≡ true → Given o.n o.t (at r.rows c) (state o q) c
  given_at c m = given o.n o.t (at r.rows c) (state o q) c c (below o opens (r ∷ q) c m) ((ok o opens r q good).itself c m)

  -- a console that decided, and whose new estimate it took
  record Decided (c : ℕ) : Type 0 where
    pub completes : member (running o (r ∷ q)) c ≡ true
    pub from : ℕ
    pub heard : member (at r.rows c) from ≡ true
    pub all_present : (k : ℕ) → k < o.n → member (at r.rows c) k ≡ true → present o.t (state o q k) ≡ true
    pub is : (state o (r ∷ q) c).decision ≡ (state o q from).estimate

  decider : (c : ℕ) → (state o (r ∷ q) c).decision ≢ 0 → Decided c
  decider c nz =
      elim (cases_Bool (member (running o (r ∷ q)) c)) [
        | inr m ↦ absurd (nz (fell c m))
        | inl m ↦
            elim (given_at c m) [
              | decides j l h all e ↦ record { completes = m; from = j; heard = h; all_present = all; is = ap (λ (x : Console). x.decision) (decided c m _ e) }
              | enters j l h here k lk hk missing e ↦ absurd (nz (ap (λ (x : Console). x.decision) (decided c m _ e) ∙ undecided o opens q (omega arith) c))
              | alone none e ↦ absurd (nz (ap (λ (x : Console). x.decision) (decided c m _ e) ∙ undecided o opens q (omega arith) c))
            ]
      ]

  -- whom a completing console heard ran, so is one of the n
  pub heard_ran : (c k : ℕ) → member (running o (r ∷ q)) c ≡ true → member (at r.rows c) k ≡ true → (member (running o q) k ≡ true) × (k < o.n)
  heard_ran c k m h = let runs = (ok o opens r q good).heard c k m h in (runs, below o opens q k runs)

  -- present new estimates of two that were heard are the same
  pub alike : (j k : ℕ) → member (running o q) j ≡ true → member (running o q) k ≡ true
      → present o.t (state o q j) ≡ true → present o.t (state o q k) ≡ true → (state o q j).estimate ≡ (state o q k).estimate
  alike j k mj mk pj pk =
      eliminated o opens q good.0 last j k mj mk (few_halted o.t (state o q j) o.n (halt_within o opens q j (omega arith)) pj)
      (few_halted o.t (state o q k) o.n (halt_within o opens q k (omega arith)) pk)

  -- every present new estimate that anybody heard is the decision
  agreed : (c d k : ℕ) → Decided c → member (running o (r ∷ q)) d ≡ true → member (at r.rows d) k ≡ true → present o.t (state o q k) ≡ true
      → (state o q k).estimate ≡ (state o (r ∷ q) c).decision
  agreed c d k x m h p =
      let from = heard_ran c x.from x.completes x.heard in
      alike k x.from (heard_ran d k m h).0 from.0 p (x.all_present x.from from.1 x.heard) ∙ sym x.is

  -- beside one who decided nobody heard only of missing ones, since any two rows have a console in common
  never_alone : (c d : ℕ) → Decided c → member (running o (r ∷ q)) d ≡ true
      → ((k : ℕ) → k < o.n → member (at r.rows d) k ≡ true → present o.t (state o q k) ≡ false) → ⊥
  never_alone c d x m none =
      let k = shared (member (at r.rows c)) (member (at r.rows d)) o.n
      (omega (arith, opens.few, (ok o opens r q good).long c x.completes, (ok o opens r q good).long d m)) in
      both_ways (present o.t (state o q k.0)) (none k.0 k.1 k.3) (x.all_present k.0 k.1 k.2)

  -- the estimate of one that was heard is an author that ran
  author : (c j : ℕ) → member (running o (r ∷ q)) c ≡ true → member (at r.rows c) j ≡ true → Own o opens q j
  author c j m h = own o opens q good.0 (omega arith) j (heard_ran c j m h).0

  hands_over : HandedOver o.ran (running o (r ∷ q)) (λ c. (state o (r ∷ q) c).decision) (entries o (r ∷ q))
  hands_over = record {
    one_author = λ c d nc nd.
        let y = decider d nd in
        let from = heard_ran d y.from y.completes y.heard in
        sym (agreed c d y.from (decider c nc) y.completes y.heard (y.all_present y.from from.1 y.heard)) ∙ sym y.is;
    entered = λ c d nc m.
        elim (given_at d m) [
          | decides j l h all e ↦ entered_with d m _ e ∙ agreed c d j (decider c nc) m h (all j l h)
          | enters j l h here k lk hk missing e ↦ entered_with d m _ e ∙ agreed c d j (decider c nc) m h here
          | alone none e ↦ absurd (never_alone c d (decider c nc) m none)
        ];
    decided_ran = λ c nc.
        let x = decider c nc in
        let a = author c x.from x.completes x.heard in
        (a.author, x.is ∙ a.is, a.author_ran);
    entry_ran = λ c m.
        elim (given_at c m) [
          | decides j l h all e ↦ let a = author c j m h in (a.author, entered_with c m _ e ∙ a.is, a.author_ran)
          | enters j l h here k lk hk missing e ↦ let a = author c j m h in (a.author, entered_with c m _ e ∙ a.is, a.author_ran)
          | alone none e ↦ (c, entered_with c m _ e, ran o opens (r ∷ q) c m)
        ];
  }

pub handed_over : (o : Opening) → Sound o → (rs : List Round) → Accepted o rs → length rs ≡ o.t + 2
    → HandedOver o.ran (running o rs) (λ c. (state o rs c).decision) (entries o rs)
handed_over o opens [] good l = absurd (omega arith)
handed_over o opens (r ∷ q) good l = hands_over o opens r q good (omega arith)

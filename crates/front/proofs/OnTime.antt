-- What truthful rounds give: halt sets within the fallen, and a decision of everybody who completes round t + 2.
use Rattle.std.proofs.Common.{◌≡◌, ℕ, suc, ◌+◌, ◌≤◌, true, false, not, List, [], ◌∷◌, length, ap, ◌∙◌, inl, inr, arith}
use Rattle.std.proofs.lemmas.Bool.{cases_Bool, both_ways, cond-true}
use Rattle.console_sets.specs.Sets.{member}
use Rattle.console_sets.proofs.Counting.{count_mono, count-not}
use Rattle.console_sets.proofs.Digits.{member_none}
use Rattle.rounds.specs.Items.{at}
use Rattle.front.specs.declared.consoles.Console.{Console}
use Rattle.front.specs.Deciding.{present}
use Rattle.front.specs.Runs.{Opening, Round, running, state, Sound, Accepted, AllTruthful}
use Rattle.front.specs.Laws.{Unhalted, OnTime}
use Rattle.front.proofs.Steps.{below, ok, stays, gained, halt_within, own, rank_of, rank-suc, chosen_first}
use Rattle.front.proofs.NewEstimates.{few_present}
use Rattle.front.proofs.Outcomes.{decides, enters, alone}
use Rattle.front.proofs.HandOver.{decided, given_at, heard_ran, alike}

module _ (o : Opening) (opens : Sound o) where
  fallen_only : (rs : List Round) → Accepted o rs → AllTruthful o rs → length rs ≤ o.t + 1
      → (c d : ℕ) → member (running o rs) c ≡ true → member (state o rs c).halt d ≡ true → member (running o rs) d ≡ false
  fallen_only [] good honest l c d m h = absurd (both_ways (member 0 d) (member_none d) h)
  fallen_only (r ∷ q) good honest l c d m h =
      elim (cases_Bool (member (running o (r ∷ q)) d)) [
        | inr e ↦ e
        | inl e ↦
            let before = fallen_only q good.0 honest.0 (omega arith) in
            let mc = stays o opens r q c m in
            let md = stays o opens r q d e in
            absurd (grind (
              arith,
              gained o opens r q (omega arith) c d (below o opens (r ∷ q) d e) m,
              honest.1 c d m e,
              before c d mc,
              before d c md,
            ))
      ]

  none_missing : (rs : List Round) → Accepted o rs → AllTruthful o rs → length rs ≡ o.t + 1
      → (c : ℕ) → member (running o rs) c ≡ true → present o.t (state o rs c) ≡ true
  none_missing [] good honest l c m = absurd (omega arith)
  none_missing (r ∷ q) good honest l c m =
      let short : length (r ∷ q) ≤ o.t + 1 = omega arith in
      few_present o.t (state o (r ∷ q) c) o.n (halt_within o opens (r ∷ q) c short) (omega (
        arith,
        (ok o opens r q good).enough,
        count-not (member (running o (r ∷ q))) o.n,
        count_mono (member (state o (r ∷ q) c).halt) (λ d. not (member (running o (r ∷ q)) d)) o.n
            (λ d ld h. ap not (fallen_only (r ∷ q) good honest short c d m h)),
      ))

  pub unhalted : (rs : List Round) → Accepted o rs → AllTruthful o rs → length rs ≤ o.t + 1 → Unhalted o rs
  unhalted rs good honest l = record { fallen_only = fallen_only rs good honest l; none_missing = none_missing rs good honest }

  -- nobody's own proposal precedes its estimate
  own_rank : (q : List Round) → Accepted o q → length q ≤ o.t + 1 → (c : ℕ) → member (running o q) c ≡ true
      → rank_of o (state o q c).estimate ≤ o.rank c
  own_rank [] good l c m = omega (arith, rank-suc o c (state o [] c).estimate (cond-true (member o.ran c) (suc c) 0 m))
  own_rank (r ∷ q) good l c m =
      omega (
        arith,
        chosen_first o opens r q good (omega arith) c m c (below o opens (r ∷ q) c m) ((ok o opens r q good).itself c m) (own o opens (r ∷ q) good l c m).unhalted,
        own_rank q good.0 (omega arith) c (stays o opens r q c m),
      )

  pub on_time : (rs : List Round) → Accepted o rs → AllTruthful o rs → length rs ≡ o.t + 2
      → (c : ℕ) → member (running o rs) c ≡ true → OnTime o rs c
  on_time [] good honest l c m = absurd (omega arith)
  on_time (r ∷ q) good honest l c m =
      let last : length q ≡ o.t + 1 = omega arith in
      let here : (k : ℕ) → member (running o q) k ≡ true → present o.t (state o q k) ≡ true = none_missing q good.0 honest.0 last in
      let hears : (k : ℕ) → member (at r.rows c) k ≡ true → present o.t (state o q k) ≡ true =
      λ k h. here k (heard_ran o opens r q good last c k m h).0 in
      elim (given_at o opens r q good last c m) [
        | enters j lj h p k lk hk missing e ↦ absurd (both_ways (present o.t (state o q k)) missing (hears k hk))
        | alone none e ↦
            absurd (both_ways (present o.t (state o q c)) (none c (below o opens (r ∷ q) c m) ((ok o opens r q good).itself c m)) (here c (stays o opens r q c m)))
        | decides j lj h all e ↦
            let mj = (heard_ran o opens r q good last c j m h).0 in
            let a = own o opens q good.0 (omega arith) j mj in
            let after = decided o opens r q good last c m _ e in
            record {
              author = a.author;
              decides = ap (λ (x : Console). x.decision) after ∙ a.is;
              exactly = ap (λ (x : Console). x.round) after;
              by_front = ap (λ (x : Console). x.cause) after;
              foremost = λ d md.
                  let runs = stays o opens r q d md in
                  omega (
                    arith,
                    rank-suc o a.author (state o q d).estimate (alike o opens r q good last d j runs mj (here d runs) (here j mj) ∙ a.is),
                    own_rank q good.0 (omega arith) d runs,
                  );
            }
      ]

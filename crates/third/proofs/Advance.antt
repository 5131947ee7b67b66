-- What the code of a round makes of a Third, from what its parts ensure.
use Rattle.std.proofs.Common.{◌≡◌, ℕ, ◌^◌, ◌<◌, ◌≤◌, false, cond, ◌&&◌, eqb, List, length, None, sym, refl, ap, ◌∙◌, subst, inl, inr, arith}
use Rattle.std.proofs.lemmas.List.{get_or_past}
use Rattle.std.proofs.lemmas.Bool.{cases_lt, cond-false, and_left}
use Rattle.console_sets.specs.Bound.{max_consoles}
use Rattle.console_sets.specs.Sets.{member}
use Rattle.console_sets.proofs.Digits.{member_above}
use Rattle.rounds.specs.Items.{at}
use Rattle.rounds.specs.Rounds.{completing}
use Rattle.rounds.proofs.Accepted.{round_ok}
use Rattle.back_end.specs.Meaning.{Meaning}
use Rattle.back_end.specs.Calls.{round_refused, Rounded}
use Rattle.back_end.specs.Kept.{meaning_with, Advances}
use Rattle.back_end.specs.Votes.{common, Backers}
use Rattle.back_end.specs.declared.progress.Progress.{Progress}
use Rattle.back_end.proofs.Ballots.{votes_are}
use Rattle.back_end.proofs.Next.{rounded_is}
use Rattle.third.specs.Rule.{poll, estimate_after, verdict_after, ThirdRound}
use Rattle.third.specs.Means.{third_meaning}
use Rattle.third.specs.declared.state.Third.{Third}
use Rattle.third.proofs.Choice.{favourite_same, elected_same}
use Rattle.third.specs.State.{Keeps}
use Rattle.third.proofs.Round.{gained, kept}

-- the list that the code makes has the items at the indices of consoles, and 0 beyond
abbrev pub Filled : (ℕ → ℕ) → List ℕ → Type 0
Filled item list = ((c : ℕ) → c < max_consoles → at list c ≡ item c) × ((c : ℕ) → max_consoles ≤ c → at list c ≡ 0)

module _ (n complete : ℕ) (rows estimates verdicts sets : List ℕ) (few : n ≤ max_consoles) (within : complete < 2 ^ n) (are : Backers n estimates sets) where
  polled : (c a : ℕ) → a < n → common (at rows c) sets a ≡ poll n (at rows c) estimates a
  polled c = votes_are n (at rows c) estimates sets few are

  -- nobody beyond the n completes a round
  outside : (c : ℕ) → max_consoles ≤ c → member complete c ≡ false
  outside c l = member_above n complete c within (omega arith)

  made_round : (estimates' verdicts' : List ℕ) → length estimates ≡ max_consoles → length verdicts ≡ max_consoles
      → Filled (estimate_after n complete (λ d. common (at rows d) sets) estimates) estimates'
      → Filled (verdict_after n complete (λ d. common (at rows d) sets) verdicts) verdicts'
      → ThirdRound n complete rows estimates verdicts estimates' verdicts'
  made_round estimates' verdicts' long long' new new' = record {
    estimates_are = λ c.
        elim (cases_lt c max_consoles) [
          | inl l ↦ new.0 c l ∙ ap (λ (v : ℕ). cond (member complete c) v (at estimates c)) (favourite_same (common (at rows c) sets) (poll n (at rows c) estimates) n (polled c))
          | inr l ↦ new.1 c l ∙ sym (cond-false (member complete c) _ _ (outside c l) ∙ get_or_past estimates c 0 (omega arith))
        ];
    verdicts_are = λ c.
        elim (cases_lt c max_consoles) [
          | inl l ↦
              new'.0 c l
              ∙ ap (λ (v : ℕ). cond (member complete c && eqb (at verdicts c) 0) v (at verdicts c)) (elected_same (common (at rows c) sets) (poll n (at rows c) estimates) n (polled c))
          | inr l ↦
              new'.1 c l
              ∙ sym (cond-false (member complete c && eqb (at verdicts c) 0) _ _ (and_left (member complete c) (eqb (at verdicts c) 0) (outside c l)) ∙ get_or_past verdicts c 0 (omega arith))
        ];
  }

module _ (b : Third) (p : Progress) (falls : ℕ) (rows sets estimates verdicts : List ℕ) where
  pub record Advance : Type 0 where
    pub means : Rounded falls rows (third_meaning b) (meaning_with p verdicts)
    pub steps : ThirdRound b.progress.n (completing b.progress.running falls) rows b.estimates b.verdicts estimates verdicts
    pub keep : Keeps (meaning_with p verdicts) estimates

  pub advance : round_refused (third_meaning b) falls rows ≡ None → Advances falls rows b.progress p → Backers b.progress.n b.estimates sets
      → length b.estimates ≡ max_consoles → length b.verdicts ≡ max_consoles
      → Filled (estimate_after b.progress.n p.running (λ d. common (at rows d) sets) b.estimates) estimates
      → Filled (verdict_after b.progress.n p.running (λ d. common (at rows d) sets) b.verdicts) verdicts → Advance
  advance accepted advances are long long' new new' =
      let q = b.progress in
      let ok = round_ok q.n q.t q.running q.rounds falls rows q.within accepted in
      -- where the progress stands does not depend on verdicts
      let stood = advances b.verdicts b.verdicts (record { keeps = λ c x. refl; others = λ c e. refl }) in
      let small : p.running < 2 ^ q.n = subst (λ (n : ℕ). p.running < 2 ^ n) stood.same_n p.within in
      let steps : ThirdRound q.n (completing q.running falls) rows b.estimates b.verdicts estimates verdicts =
      subst (λ (s : ℕ). ThirdRound q.n s rows b.estimates b.verdicts estimates verdicts) stood.runs
      (made_round q.n p.running rows b.estimates b.verdicts sets q.few small are estimates verdicts long long' new new') in
      let means = advances b.verdicts verdicts (gained (third_meaning b) falls rows b.estimates estimates verdicts q.within ok b.keeps steps) in
      record {
        means = means;
        steps = steps;
        keep =
            subst (λ (m : Meaning). Keeps m estimates) (sym (rounded_is falls rows (third_meaning b) (meaning_with p verdicts) means))
            (kept (third_meaning b) falls rows b.estimates estimates verdicts q.within ok b.keeps steps);
      }

-- What follows from what every state of Third keeps, and how it begins.
use Rattle.std.specs.Prelude.{◌≡◌, ℕ, ◌*◌, ◌^◌, ◌<◌, ◌≤◌, true, false, List, nat_eq}
use Rattle.std.proofs.Common.{sym, ap, subst, ◌∙◌, inl, inr, arith}
use Rattle.std.proofs.lemmas.Bool.{cases_Bool, cond-true, cond-false, eqb-true, both_ways}
use Rattle.console_sets.specs.Sets.{member}
use Rattle.console_sets.proofs.Counting.{shared}
use Rattle.console_sets.proofs.Digits.{member_below, member_none}
use Rattle.rounds.specs.Items.{at}
use Rattle.rounds.specs.Laws.{StartOk}
use Rattle.back_end.specs.Meaning.{Meaning}
use Rattle.back_end.specs.Calls.{Blank, Made, Started}
use Rattle.back_end.specs.Laws.{Agrees}
use Rattle.back_end.specs.Votes.{backing}
use Rattle.back_end.proofs.Ballots.{backed, backer}
use Rattle.third.specs.State.{Keeps}

-- the verdicts agree: of two, more than two thirds have each as their estimate, so that somebody has both
pub agrees : (m : Meaning) (estimates : List ℕ) → Keeps m estimates → Agrees m
agrees m estimates k = record {
  one_verdict = λ c d x y.
      let v : ℕ = at m.verdicts c in
      let w : ℕ = at m.verdicts d in
      let s = shared (λ e. nat_eq (at estimates e) v) (λ e. nat_eq (at estimates e) w) m.n (omega (arith, k.backed c x, k.backed d y)) in
      sym (eqb-true (at estimates s.0) v s.2) ∙ eqb-true (at estimates s.0) w s.3;
  an_entry = λ c x.
      let v : ℕ = at m.verdicts c in
      let b = backer m.n estimates v (omega (arith, k.backed c x)) in
      backer m.n m.entries v (subst (λ (w : ℕ). 0 < backing m.n m.entries w) b.2 (k.entered b.0 (λ z. x (sym b.2 ∙ z))));
}

-- without a verdict and a steady round, each estimate being the entry
opened : (m : Meaning) → 3 * m.t < m.n → m.running < 2 ^ m.n → Blank m.verdicts → m.steady ≡ 0
    → ((c : ℕ) → member m.running c ≡ true → (0 < at m.entries c) × (at m.entries c ≤ m.n))
    → ((c : ℕ) → member m.running c ≡ false → at m.entries c ≡ 0) → Keeps m m.entries
opened m served within none new runs idle = record {
  served = served;
  entered = λ c x.
      elim (cases_Bool (member m.running c)) [
        | inl e ↦ backed m.n m.entries c (member_below m.n m.running c within e)
        | inr e ↦ absurd (x (idle c e))
      ];
  listed = λ c. elim (cases_Bool (member m.running c)) [ inl e ↦ (runs c e).1 | inr e ↦ omega (arith, idle c e) ];
  estimating = λ c e. (runs c e).0;
  backed = λ c x. absurd (x (none c));
  even = λ c d h. absurd (omega (arith, h.0));
  settled = λ h. absurd (omega (arith, h));
}

pub made_keeps : (n t : ℕ) (m : Meaning) → Made n t m → 3 * t < n → m.running < 2 ^ m.n → Keeps m m.entries
made_keeps n t m made served within =
    opened m (omega (arith, made.for_n, made.for_t)) within made.no_verdicts made.not_steady
    (λ c e. absurd (both_ways (member m.running c) (ap (λ (r : ℕ). member r c) made.nobody_runs ∙ member_none c) e)) (λ c e. made.no_entries c)

pub started_keeps : (t running : ℕ) (entries : List ℕ) (before after : Meaning) → Started running entries before after
    → 3 * before.t < before.n → after.running < 2 ^ after.n → StartOk before.n t running entries → Keeps after after.entries
started_keeps t running entries before after s served within ok =
    opened after (omega (arith, s.same_n, s.same_t)) within s.no_verdicts s.not_steady runs idle
  where
    runs : (c : ℕ) → member after.running c ≡ true → (0 < at after.entries c) × (at after.entries c ≤ after.n)
    runs c e =
        let m : member running c ≡ true = sym (ap (λ (r : ℕ). member r c) s.runs) ∙ e in
        let is = s.enters c ∙ cond-true (member running c) _ _ m in
        (omega (arith, (ok.author c m).0), omega (arith, (ok.author c m).1, s.same_n))

    idle : (c : ℕ) → member after.running c ≡ false → at after.entries c ≡ 0
    idle c e = s.enters c ∙ cond-false (member running c) _ _ (sym (ap (λ (r : ℕ). member r c) s.runs) ∙ e)

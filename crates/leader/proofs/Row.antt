-- What is known of what a row shows.
use Rattle.std.specs.Prelude.{◌≡◌, ℕ, suc, ◌*◌, ◌<◌, ◌≤◌, true, cond, not, ◌&&◌, ◌≢◌, ◌==◌}
use Rattle.std.proofs.Common.{inl, inr, arith}
use Rattle.std.proofs.lemmas.Bool.Decides.{nat_tests}
use Rattle.std.proofs.lemmas.Bool.{cases_Bool, and_parts, ltb-true}
use Rattle.console_sets.specs.Bound.{max_consoles}
use Rattle.console_sets.specs.Sets.{member}
use Rattle.console_sets.proofs.Lowest.{lowest_zero, lowest_is, lowest_some}
use Rattle.back_end.proofs.Most.{largest_le, largest_is}
use Rattle.leader.specs.Rule.{State, informed, majority, peak, tops, named, led, foremost, next_leader}

-- who is named next is in the row
pub next_in : (row c : ℕ) → c < max_consoles → member row c ≡ true
    → (d : ℕ) × (next_leader row ≡ suc d) × (member row d ≡ true)
unfolding next_leader
next_in row c l m =
    let d = lowest_some (member row) max_consoles c l m in
    (d.0, d.1, (lowest_is (member row) max_consoles d.0 d.1).1)

module _ (n row : ℕ) (s : State) where
  -- where there is no lowest console with a verdict, none has one
  pub silent : informed n row s ≡ 0 → (d : ℕ) → d < n → member row d ≡ true → (s d).verdict ≡ 0
  silent e d l m =
      let z = lowest_zero (λ d. member row d && not ((s d).verdict == 0)) n e d l in
      grind (arith, nat_tests)

  pub teller : (d : ℕ) → informed n row s ≡ suc d → (s d).verdict ≢ 0
  teller d e =
      let h = lowest_is (λ d. member row d && not ((s d).verdict == 0)) n d e in
      grind (arith, nat_tests)

  -- a console in the row with no lower stamp than any there
  pub record Top (d : ℕ) : Type 0 where
    pub below : d < n
    pub heard : member row d ≡ true
    pub highest : (e : ℕ) → e < n → member row e ≡ true → (s e).stamp ≤ (s d).stamp

  under : (e : ℕ) → e < n → member row e ≡ true → (s e).stamp ≤ peak n row s
  under e l m =
      let h = largest_le (λ d. cond (member row d) (s d).stamp 0) n e l in
      grind (arith, nat_tests)

  top_is : (d : ℕ) → d < n → tops n row s d ≡ true → Top d
  top_is d l t = record {
    below = l;
    heard = grind (arith, nat_tests);
    highest = λ e k m. let u = under e k m in grind (arith, nat_tests);
  }

  is_top : (d : ℕ) → Top d → tops n row s d ≡ true
  is_top d t =
      let m = largest_is (λ e. cond (member row e) (s e).stamp 0) n (omega (arith, t.below)) in
      let h = t.highest m.0 m.1 in
      let u = under d t.below t.heard in
      let r = t.heard in
      grind (arith, nat_tests)

  -- the leader of rule 3
  pub led_is : (d : ℕ) → led n row s ≡ suc d → Top d × (n < 2 * named n row s d)
  led_is d e =
      let h = lowest_is (λ d. tops n row s d && majority n (named n row s d)) n d e in
      let p = and_parts (tops n row s d) (majority n (named n row s d)) h.1 in
      (top_is d h.0 p.0, ltb-true n (2 * named n row s d) p.1)

  pub is_led : (d : ℕ) → Top d → n < 2 * named n row s d → led n row s ≢ 0
  is_led d t many e =
      let z = lowest_zero (λ d. tops n row s d && majority n (named n row s d)) n e d t.below in
      let h = is_top d t in
      grind (arith, nat_tests)

  -- the console of rule 4
  pub foremost_is : (d : ℕ) → foremost n row s ≡ suc d → Top d
  foremost_is d e = let h = lowest_is (tops n row s) n d e in top_is d h.0 h.1

  pub some_foremost : (c : ℕ) → c < n → member row c ≡ true → (d : ℕ) × (foremost n row s ≡ suc d)
  some_foremost c l m =
      let f = largest_is (λ e. cond (member row e) (s e).stamp 0) n (omega arith) in
      elim (cases_Bool (member row f.0)) [
        | inl h ↦ lowest_some (tops n row s) n f.0 f.1 (grind (arith, nat_tests))
        | inr h ↦ let u = under c l m in lowest_some (tops n row s) n c l (grind (arith, nat_tests))
      ]

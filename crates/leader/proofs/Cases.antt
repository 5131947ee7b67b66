-- What a round does to a console, by cases: a console that keeps all that it has, and each rule.
use Rattle.std.specs.Prelude.{◌≡◌, ℕ, zero, suc, ◌-◌, ◌<◌, true, false, cond, ◌&&◌, ◌≢◌, List, ◌==◌, refl}
use Rattle.std.proofs.Common.{ap, ◌∙◌, inl, inr, arith}
use Rattle.std.proofs.lemmas.Bool.Decides.{nat_tests}
use Rattle.std.proofs.lemmas.Bool.{cases_Bool, and_parts, eqb-true, cond-true, cond-false}
use Rattle.console_sets.specs.Sets.{member}
use Rattle.rounds.specs.Items.{at}
use Rattle.leader.specs.Rule.{State, is_commit, majority, informed, committed, led, foremost, next_leader, decides, commits, prepares, by, turned, ruled, console_after}
use Rattle.leader.specs.declared.console.Console.{Console}
use Rattle.leader.proofs.Row.{some_foremost}

by_none : (number : ℕ) (f : ℕ → Console) (rest : Console) → number ≡ 0 → by number f rest ≡ rest
by_none number f rest e = grind (arith, nat_tests)

by_some : (number d : ℕ) (f : ℕ → Console) (rest : Console) → number ≡ suc d → by number f rest ≡ f d
by_some number d f rest e = grind (arith, nat_tests)

-- who has a verdict and who does not complete the round keep all that they have
module _ (n k complete : ℕ) (rows : List ℕ) (s : State) (c : ℕ) where
  pub stays : (s c).verdict ≢ 0 → console_after n k complete rows s c ≡ s c
  stays x = cond-false (member complete c && (s c).verdict == 0) _ (s c) (grind (arith, nat_tests))

  pub others : member complete c ≡ false → console_after n k complete rows s c ≡ s c
  others m = cond-false (member complete c && (s c).verdict == 0) _ (s c) (grind (arith, nat_tests))

-- rules 3 and 4
module _ (n k row : ℕ) (s : State) where
  -- whoever the leader is
  pub turned_names : (chief : ℕ) → (by chief (λ d. commits k (next_leader row) (s d)) (prepares (next_leader row) (s (foremost n row s - 1)))).leader ≡ next_leader row
  turned_names chief = grind (arith, nat_tests)

  pub turned_leads : (d : ℕ) → led n row s ≡ suc d → turned n k row s ≡ commits k (next_leader row) (s d)
  turned_leads d e = by_some (led n row s) d (λ i. commits k (next_leader row) (s i)) _ e

  pub turned_follows : (d : ℕ) → led n row s ≡ 0 → foremost n row s ≡ suc d
      → turned n k row s ≡ prepares (next_leader row) (s d)
  turned_follows d e f =
      let less : foremost n row s - 1 ≡ d = omega arith in
      by_none (led n row s) (λ i. commits k (next_leader row) (s i)) _ e ∙ ap (λ (i : ℕ). prepares (next_leader row) (s i)) less

-- neither rule 1 nor rule 2 fits
pub record Past (n row : ℕ) (s : State) (own : Console) : Type 0 where
  pub untold : informed n row s ≡ 0
  pub undecided : (is_commit own.kind && majority n (committed n row s)) ≡ false

-- rules 3 and 4
pub data Turned (n k row : ℕ) (s : State) (is : Console) : Type 0 where
  led_by : (d : ℕ) → led n row s ≡ suc d → is ≡ commits k (next_leader row) (s d) → Turned n k row s is
  followed : (d : ℕ) → led n row s ≡ 0 → foremost n row s ≡ suc d → is ≡ prepares (next_leader row) (s d) → Turned n k row s is

-- what becomes of the console c
pub data Went (n k complete row : ℕ) (s : State) (c : ℕ) (is : Console) : Type 0 where
  kept : (member complete c ≡ true → (s c).verdict ≢ 0) → is ≡ s c → Went n k complete row s c is
  relayed : (d : ℕ) → informed n row s ≡ suc d → is ≡ decides (s c) (s d).verdict → Went n k complete row s c is
  decided : member complete c ≡ true → (s c).verdict ≡ 0 → informed n row s ≡ 0 → is_commit (s c).kind ≡ true → majority n (committed n row s) ≡ true
      → is ≡ decides (s c) (s c).estimate → Went n k complete row s c is
  turns : member complete c ≡ true → Past n row s (s c) → Turned n k row s is → Went n k complete row s c is

-- the case of each console, where a completing one has heard itself
module _ (n k complete : ℕ) (rows : List ℕ) (s : State) (c : ℕ) (is : Console) (itself : member complete c ≡ true → (c < n) × (member (at rows c) c ≡ true)) where
  third : (l : ℕ) → member complete c ≡ true → Past n (at rows c) s (s c) → led n (at rows c) s ≡ l
      → is ≡ turned n k (at rows c) s → Went n k complete (at rows c) s c is
  third zero m p e h =
      let t = itself m in
      let d = some_foremost n (at rows c) s c t.0 t.1 in
      turns m p (followed d.0 e d.1 (h ∙ turned_follows n k (at rows c) s d.0 e d.1))
  third (suc d) m p e h = turns m p (led_by d e (h ∙ turned_leads n k (at rows c) s d e))

  second : member complete c ≡ true → (s c).verdict ≡ 0 → informed n (at rows c) s ≡ 0
      → is ≡ cond (is_commit (s c).kind && majority n (committed n (at rows c) s)) (decides (s c) (s c).estimate) (turned n k (at rows c) s)
      → Went n k complete (at rows c) s c is
  second m v e h =
      elim (cases_Bool (is_commit (s c).kind && majority n (committed n (at rows c) s))) [
        | inl g ↦ let p = and_parts _ _ g in decided m v e p.0 p.1 (h ∙ cond-true _ _ _ g)
        | inr g ↦ third (led n (at rows c) s) m (record { untold = e; undecided = g }) refl (h ∙ cond-false _ _ _ g)
      ]

  first : (i : ℕ) → member complete c ≡ true → (s c).verdict ≡ 0 → informed n (at rows c) s ≡ i
      → is ≡ ruled n k (at rows c) s (s c) → Went n k complete (at rows c) s c is
  first (suc d) m v e h = relayed d e (h ∙ by_some (informed n (at rows c) s) d (λ i. decides (s c) (s i).verdict) _ e)
  first zero m v e h = second m v e (h ∙ by_none (informed n (at rows c) s) (λ i. decides (s c) (s i).verdict) _ e)

  pub went : is ≡ console_after n k complete rows s c → Went n k complete (at rows c) s c is
  went h =
      elim (cases_Bool (member complete c && (s c).verdict == 0)) [
        | inr f ↦ kept (λ m z. grind (arith, nat_tests)) (h ∙ cond-false _ _ (s c) f)
        | inl f ↦
            let p = and_parts (member complete c) ((s c).verdict == 0) f in
            first (informed n (at rows c) s) p.0 (eqb-true (s c).verdict 0 p.1) refl (h ∙ cond-true _ _ (s c) f)
      ]

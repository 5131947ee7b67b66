-- What accepted calls and steady rounds are known to have.
use Rattle.std.proofs.Common.{◌≡◌, ℕ, ◌+◌, ◌-◌, ◌*◌, ◌^◌, ◌<◌, ◌≤◌, Bool, true, false, cond, not, ◌&&◌, ◌||◌, eqb, ltb, leb, List, length, Some, None, Ok, Option, sym, refl, ap, ◌∙◌, inl, inr, arith}
use lib.Bits.{bit_xor, and_zero_r, xor_zero_r}
use lib.Count.{ones}
use Rattle.std.proofs.lemmas.Bool.{cases_Bool, and_parts, or_parts, eqb-true, eqb-false, eq-eqb, leb-true, leb-false, ltb-false, not-false}
use Rattle.std.proofs.lemmas.Bool.Decides.{nat_tests}
use Rattle.console_sets.specs.Bound.{max_consoles}
use Rattle.console_sets.specs.Sets.{count, member, lowest, inside, all, without}
use Rattle.console_sets.proofs.Lowest.{lowest_zero, zero-lowest}
use Rattle.console_sets.proofs.Digits.{ones-count, member-without, member-inside, member_below, inside_lt, inside-all, without_lt}
use Rattle.rounds.specs.Bound.{min_consoles, max_rounds}
use Rattle.rounds.specs.Items.{at}
use Rattle.rounds.specs.Refusals.{refused, refused_at, either, answer}
use Rattle.rounds.specs.Rounds.{quorum, completing, bad_entry, bad_row, short_row, uneven_row, steady_round, Truthful}
use Rattle.rounds.specs.Checks.{size_refusal, make_refusal, start_refusal, round_refusal}
use Rattle.rounds.specs.Laws.{SizeOk, StartOk, RoundOk, Steady}
use Rattle.rounds.specs.declared.refusals.Refusal.{Refusal}
use Rattle.rounds.specs.declared.refusals.Refusal.TheVariants.{Consoles, Tolerance, NotServed, BadItem, ShortRow}

-- a call that was not refused
pub accepted : (refusal : Option Refusal) → Ok tt ≡ answer refusal → refusal ≡ None
accepted None e = refl
accepted (Some r) e = absurd (let z : ◌≡◌ {A = ℕ} 0 1 = cc in omega arith)

-- a condition that did not refuse
past : (test : Bool) (e : Refusal) (rest : Option Refusal) → refused test e rest ≡ None → (test ≡ false) × (rest ≡ None)
past true e rest h = absurd (let z : ◌≡◌ {A = ℕ} 0 1 = cc in omega arith)
past false e rest h = (refl, h)

past_at : (console : ℕ) (e : ℕ → Refusal) (rest : Option Refusal) → refused_at console e rest ≡ None → (console ≡ 0) × (rest ≡ None)
past_at console e rest h =
    elim (cases_Bool (eqb console 0)) [
      | inl t ↦ (eqb-true console 0 t, sym (ap (λ (b : Bool). cond b rest (Some (e console))) t) ∙ h)
      | inr f ↦ absurd (let r : Some (e console) ≡ None = sym (ap (λ (b : Bool). cond b rest (Some (e console))) f) ∙ h in let z : ◌≡◌ {A = ℕ} 0 1 = cc in omega arith)
    ]

pub size_ok : (n t : ℕ) → size_refusal n t ≡ None → SizeOk n t
size_ok n t e =
    let a = past (ltb n min_consoles || ltb max_consoles n) Consoles _ e in
    let b = past (eqb t 0 || leb n (2 * t)) Tolerance None a.1 in
    let bounds = or_parts (ltb n min_consoles) (ltb max_consoles n) a.0 in
    let falls = or_parts (eqb t 0) (leb n (2 * t)) b.0 in
    let some : t ≡ 0 → ⊥ = eqb-false t 0 falls.0 in
    record {
      least = ltb-false n min_consoles bounds.0;
      most = ltb-false max_consoles n bounds.1;
      some = omega arith;
      half = leb-false n (2 * t) falls.1;
    }

pub make_ok : (serves : Bool) (n t : ℕ) → make_refusal serves n t ≡ None → (serves ≡ true) × SizeOk n t
make_ok serves n t e = both (size_refusal n t) refl e
  where
    both : (size : Option Refusal) → size_refusal n t ≡ size → either size (refused (not serves) NotServed None) ≡ None → (serves ≡ true) × SizeOk n t
    both None s h = (not-false serves (past (not serves) NotServed None h).0, size_ok n t s)
    both (Some r) s h = absurd (let z : ◌≡◌ {A = ℕ} 0 1 = cc in omega arith)

-- a quorum of the n
enough : (n t set : ℕ) → set < 2 ^ n → quorum n t set ≡ true → n ≤ count (member set) n + t
enough n t set within q = omega (arith, leb-true (n - t) (ones set) q, ones-count n set within)

pub start_ok : (n t running : ℕ) (entries : List ℕ) → start_refusal n t running entries ≡ None → StartOk n t running entries
start_ok n t running entries e =
    let a = past (not (eqb (length entries) n)) _ _ e in
    let b = past (not (inside running (all n))) _ _ a.1 in
    let q = past (not (quorum n t running)) _ _ b.1 in
    let good = past_at (lowest (bad_entry n running entries) n) BadItem None q.1 in
    let within : running < 2 ^ n = inside-all n running (not-false (inside running (all n)) b.0) in
    record {
      full = eqb-true (length entries) n (not-false (eqb (length entries) n) a.0);
      within = within;
      enough = enough n t running within (not-false (quorum n t running) q.0);
      author = λ c m.
          let none : bad_entry n running entries c ≡ false = lowest_zero (bad_entry n running entries) n good.0 c (member_below n running c within m) in
          numbered (member running c) (at entries c) m none;
    }
  where
    numbered : (runs : Bool) (entry : ℕ) → runs ≡ true → (runs && (eqb entry 0 || ltb n entry)) ≡ false → (0 < entry) × (entry ≤ n)
    numbered runs entry m h = (grind (arith, nat_tests), grind (arith, nat_tests))

module _ (n t running rounds falls : ℕ) (rows : List ℕ) (within : running < 2 ^ n) where
  pub round_ok : round_refusal n t running rounds falls rows ≡ None → RoundOk n t running rounds falls rows
  round_ok e =
      let a = past (leb max_rounds rounds) _ _ e in
      let b = past (not (eqb (length rows) n)) _ _ a.1 in
      let f = past (not (inside falls running)) _ _ b.1 in
      let q = past (not (quorum n t (completing running falls))) _ _ f.1 in
      let g = past_at (lowest (bad_row running falls rows) n) BadItem _ q.1 in
      let h = past_at (lowest (short_row n t running falls rows) n) ShortRow None g.1 in
      let ran : (c : ℕ) → member (completing running falls) c ≡ true → (c < n) × (member running c ≡ true) = λ c m.
      let r = (and_parts (member running c) (not (member falls c)) (sym (member-without running falls c) ∙ m)).0 in
      (member_below n running c within r, r) in
      let good : (c : ℕ) → c < n → bad_row running falls rows c ≡ false = lowest_zero (bad_row running falls rows) n g.0 in
      let row : (c : ℕ) → member (completing running falls) c ≡ true → (member (at rows c) c ≡ true) × (inside (at rows c) running ≡ true) = λ c m.
      heard (member (completing running falls) c) (member (at rows c) c) (inside (at rows c) running) (not (eqb (at rows c) 0)) m (good c (ran c m).0) in
      record {
        early = leb-false max_rounds rounds a.0;
        full = eqb-true (length rows) n (not-false (eqb (length rows) n) b.0);
        fell = λ c m. member-inside falls running c (not-false (inside falls running) f.0) m;
        ran = ran;
        enough = enough n t (completing running falls) (without_lt n running falls within) (not-false (quorum n t (completing running falls)) q.0);
        itself = λ c m. (row c m).0;
        heard = λ c d m k. member-inside (at rows c) running d (row c m).1 k;
        long = λ c m.
            let s : short_row n t running falls rows c ≡ false = lowest_zero (short_row n t running falls rows) n h.0 c (ran c m).0 in
            enough n t (at rows c) (inside_lt n (at rows c) running (row c m).1 within) (long (member (completing running falls) c) (quorum n t (at rows c)) m s);
        silent = λ c l m. silent (member (completing running falls) c) (not (member (at rows c) c && inside (at rows c) running)) (at rows c) m (good c l);
      }
    where
      heard : (completes itself only others : Bool) → completes ≡ true → cond completes (not (itself && only)) others ≡ false → (itself ≡ true) × (only ≡ true)
      heard completes itself only others m h = (grind arith, grind arith)

      long : (completes many : Bool) → completes ≡ true → (completes && not many) ≡ false → many ≡ true
      long completes many m h = grind arith

      silent : (completes bad : Bool) (row : ℕ) → completes ≡ false → cond completes bad (not (eqb row 0)) ≡ false → row ≡ 0
      silent completes bad row m h = grind (arith, nat_tests)

-- ---- steady rounds

nobody_falls : (running falls : ℕ) → falls ≡ 0 → completing running falls ≡ running
nobody_falls running falls e = ap (without running) e ∙ ap (bit_xor running) (and_zero_r running) ∙ xor_zero_r running

pub steady_ok : (n running falls : ℕ) (rows : List ℕ) → running < 2 ^ n → steady_round n running falls rows ≡ true → Steady running falls rows
steady_ok n running falls rows within e =
    let p = and_parts (eqb falls 0) (eqb (lowest (uneven_row running rows) n) 0) e in
    let none = eqb-true falls 0 p.0 in
    record {
      nobody = none;
      all_complete = nobody_falls running falls none;
      even = λ c m.
          same (member running c) (at rows c) m (lowest_zero (uneven_row running rows) n (eqb-true (lowest (uneven_row running rows) n) 0 p.1) c (member_below n running c within m));
    }
  where
    same : (runs : Bool) (row : ℕ) → runs ≡ true → (runs && not (eqb row running)) ≡ false → row ≡ running
    same runs row m h = grind (arith, nat_tests)

pub ok_steady : (n running falls : ℕ) (rows : List ℕ) → Steady running falls rows → steady_round n running falls rows ≡ true
ok_steady n running falls rows s =
    both (eqb falls 0) (eqb (lowest (uneven_row running rows) n) 0) (eq-eqb falls 0 s.nobody)
    (eq-eqb (lowest (uneven_row running rows) n) 0 (zero-lowest (uneven_row running rows) n (λ c l. same (member running c) (at rows c) (s.even c))))
  where
    both : (x y : Bool) → x ≡ true → y ≡ true → (x && y) ≡ true
    both x y h k = grind arith

    same : (runs : Bool) (row : ℕ) → (runs ≡ true → row ≡ running) → (runs && not (eqb row running)) ≡ false
    same runs row h = grind (arith, nat_tests)

pub steady_truthful : (n running falls : ℕ) (rows : List ℕ) → running < 2 ^ n → steady_round n running falls rows ≡ true → Truthful running falls rows
steady_truthful n running falls rows within e c d mc md =
    let s = steady_ok n running falls rows within e in
    let ran : (i : ℕ) → member (completing running falls) i ≡ true → member running i ≡ true = λ i m. sym (ap (λ (x : ℕ). member x i) s.all_complete) ∙ m in
    ap (λ (x : ℕ). member x d) (s.even c (ran c mc)) ∙ ran d md

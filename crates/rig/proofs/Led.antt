-- Every history that a string of calls leads to: its presses are lawful, and the meaning of the back end is the history's.
use Rattle.std.proofs.Common.{◌≡◌, ℕ, suc, ◌+◌, ◌*◌, ◌^◌, ◌<◌, ◌≤◌, Bool, true, false, cond, not, ◌&&◌, eqb, leb, List, [], ◌∷◌, length, None, Option, sym, refl, ap, ◌∙◌, subst, inl, inr, arith, pow_pos}
use Rattle.std.proofs.lemmas.Bool.{cases_Bool, cases_eq, cases_lt, both_ways, cond-true, cond-false, and_left, eq-eqb, ne_eqb, le-leb, lt-leb, leb-false, lt-ltb, le-ltb}
use Rattle.console_sets.specs.Bound.{max_consoles}
use Rattle.console_sets.specs.Sets.{member}
use Rattle.console_sets.proofs.Digits.{member_above}
use Rattle.orders.specs.Orders.{Lawful as Ordered}
use Rattle.rounds.specs.Items.{at}
use Rattle.rounds.specs.Refusals.{refused}
use Rattle.rounds.specs.Rounds.{completing, steady_round}
use Rattle.rounds.specs.Checks.{round_refusal}
use Rattle.rounds.specs.declared.Refusal.{Refusal}
use Rattle.rounds.proofs.Accepted.{size_ok}
use Rattle.back_end.specs.Meaning.{Meaning}
use Rattle.back_end.specs.Laws.{Agrees, Settles}
use Rattle.front.specs.Deciding.{entries_after}
use Rattle.front.specs.Runs.{Opening, running, Sound as Opened}
use Rattle.front.proofs.Steps.{within, below}
use Rattle.rig.specs.Bound.{max_pages}
use Rattle.rig.specs.Presses.{Played, Press, rounds_of, steadies, opened_with, Meant}
use Rattle.rig.specs.Shows.{Setting, Show, Answered, running_now, closed_of, closed_presses, shows, If, Backs, with_round, Goes, Led, set_up, not_done, press_done, round_done, close_done, AllLawful}
use Rattle.rig.proofs.Good.{Good, none_outside, same_length}
use Rattle.rig.proofs.Lawful.{opens_with, lawful}

-- ---- one of two, by a test

pub if_true : (b : Bool) (A B : Type 0) → b ≡ true → A → If b A B
if_true true A B e x = x
if_true false A B e x = absurd (both_ways false refl e)

pub if_false : (b : Bool) (A B : Type 0) → b ≡ false → B → If b A B
if_false false A B e x = x
if_false true A B e x = absurd (both_ways true e refl)

pub true_if : (b : Bool) (A B : Type 0) → b ≡ true → If b A B → A
true_if true A B e x = x
true_if false A B e x = absurd (both_ways false refl e)

pub false_if : (b : Bool) (A B : Type 0) → b ≡ false → If b A B → B
false_if false A B e x = x
false_if true A B e x = absurd (both_ways true e refl)

-- a condition that did not refuse
pub past : (test : Bool) (e : Refusal) (rest : Option Refusal) → refused test e rest ≡ None → (test ≡ false) × (rest ≡ None)
past true e rest h = absurd (let z : ◌≡◌ {A = ℕ} 0 1 = cc in omega arith)
past false e rest h = (refl, h)

-- while no press is open, all are closed
pub all_closed : (b : Bool) (ps : List Press) → b ≡ false → closed_of b ps ≡ ps
all_closed b [] e = refl
all_closed false (p ∷ ps) e = refl
all_closed true (p ∷ ps) e = absurd (both_ways true e refl)

-- ---- what is known of each press

pub record SoundPress (bound : ℕ) (s : Setting) (p : Press) : Type 0 where
  pub ordered : Ordered p.place
  pub opens : Opened (opened_with s.n s.t p)
  pub good : Good bound (opened_with s.n s.t p) p.played

abbrev pub AllSound : ℕ → Setting → List Press → Type 0
AllSound bound s [] = Unit {0}
AllSound bound s (p ∷ ps) = AllSound bound s ps × SoundPress bound s p

pub all_lawful : (bound : ℕ) (s : Setting) (ps : List Press) → AllSound bound s ps → AllLawful bound s ps
all_lawful bound s [] each = tt
all_lawful bound s (p ∷ ps) each =
    (all_lawful bound s ps each.0, lawful s.n s.t bound p each.1.ordered each.1.opens each.1.good)

pub known_now : (bound : ℕ) (s : Setting) (ps : List Press) → AllSound bound s ps → running_now s ps < 2 ^ s.n
known_now bound s [] each = omega (arith, pow_pos s.n)
known_now bound s (p ∷ ps) each = within (opened_with s.n s.t p) each.1.opens (rounds_of p.played)

pub record Sound (bound : ℕ) (s : Setting) (show : Show) (m : Meaning) : Type 0 where
  pub wide : s.n ≤ max_consoles
  pub some_fall : 0 < s.t
  pub few : 2 * s.t < s.n
  pub known : running_now s show.presses < 2 ^ s.n
  -- an open press has a page to go to
  pub room : show.open_now ≡ true → length (closed_presses show) < max_pages
  pub each : AllSound bound s show.presses
  pub for_n : m.n ≡ s.n
  pub for_t : m.t ≡ s.t
  pub backs : Backs s show.presses m
  pub lawful : AllLawful bound s show.presses

-- ---- one round more

module _ (bound : ℕ) (s : Setting) (p : Press) (r : Played) (m m' : Meaning) (g : Goes s p r m m') (before : SoundPress bound s p) where
  -- the meaning of the back end in round t + 2
  started : length p.played ≡ s.t + 1 → m.n ≡ s.n → m.t ≡ s.t → Meant (opened_with s.n s.t p) (r ∷ p.played) m'
  unfolding entries_after
  started e fn ft =
      let o : Opening = opened_with s.n s.t p in
      let w = g.starts e in
      let run = running o (rounds_of (r ∷ p.played)) in
      record {
        for_n = w.2.same_n ∙ fn;
        for_t = w.2.same_t ∙ ft;
        runs = w.2.runs;
        enters = λ c. w.2.enters c ∙ (elim (cases_Bool (member run c)) [
          | inl h ↦ cond-true (member run c) (at w.0 c) 0 h ∙ w.1 c (below o before.opens (rounds_of (r ∷ p.played)) c h)
          | inr h ↦
              cond-false (member run c) (at w.0 c) 0 h
              ∙ sym (cond-true (eqb (length (rounds_of p.played)) (s.t + 1)) _ _ (eq-eqb (length (rounds_of p.played)) (s.t + 1) (same_length p.played ∙ e))
              ∙ cond-false (member run c) _ _ h)
        ]);
        since = omega (arith, w.2.no_rounds);
        verdicts = λ c. w.2.no_verdicts c ∙ sym (g.silent (omega arith) c);
        counts = w.2.not_steady ∙ sym (cond-false _ _ _ (and_left _ _ (le-ltb (s.t + 1) (length p.played) (omega arith))));
      }

  -- and later
  went : s.t + 1 < length p.played → Meant (opened_with s.n s.t p) p.played m → Meant (opened_with s.n s.t p) (r ∷ p.played) m'
  went l k =
      let o : Opening = opened_with s.n s.t p in
      let w = g.goes l in
      let steady = steady_round s.n (running o (rounds_of p.played)) r.round.falls r.round.rows in
      record {
        for_n = w.same_n ∙ k.for_n;
        for_t = w.same_t ∙ k.for_t;
        runs = w.runs ∙ ap (λ (x : ℕ). completing x r.round.falls) k.runs;
        enters = λ c.
            ap (λ (x : List ℕ). at x c) w.same_entries ∙ k.enters c
            ∙ sym (cond-false (eqb (length (rounds_of p.played)) (s.t + 1)) _ _
            (ne_eqb (length (rounds_of p.played)) (s.t + 1) (λ e. omega (arith, same_length p.played))));
        since = omega (arith, w.one_more, k.since);
        verdicts = λ c. sym (g.tells l c);
        counts =
            w.counts
            ∙ (λ j. cond (steady_round (k.for_n j) (k.runs j) r.round.falls r.round.rows) (k.counts j + 1) 0)
            ∙ ap (λ (b : Bool). cond (b && steady) (steadies o p.played + 1) 0) (sym (lt-ltb (s.t + 1) (length p.played) l));
      }

  -- only the n consoles have a verdict, since only completing ones gain one
  outside : (s.t + 1 < length p.played → Meant (opened_with s.n s.t p) p.played m) → (c : ℕ) → s.n ≤ c → r.verdicts c ≡ 0
  outside k c l =
      let o : Opening = opened_with s.n s.t p in
      elim (cases_lt (s.t + 1) (length p.played)) [
        | inr early ↦ g.silent early c
        | inl late ↦
            let out : member (completing m.running r.round.falls) c ≡ false =
            ap (λ (x : ℕ). member (completing x r.round.falls) c) (k late).runs
            ∙ member_above s.n _ c (within o before.opens (rounds_of (r ∷ p.played))) l in
            g.tells late c ∙ (g.goes late).gained.others c out ∙ (k late).verdicts c ∙ none_outside bound o p.played before.good c l
      ]

  -- the press with the round
  step : round_refusal s.n s.t (running (opened_with s.n s.t p) (rounds_of p.played)) (length p.played) r.round.falls r.round.rows ≡ None
      → Agrees m' → Settles bound m' → (s.t + 1 < length p.played → Meant (opened_with s.n s.t p) p.played m) → SoundPress bound s (with_round p r)
  step accepted agrees settles k = record {
    ordered = before.ordered;
    opens = before.opens;
    good = (
      before.good,
      record {
        accepted = accepted;
        silent = g.silent;
        voiced = λ l. (m', went l (k l), agrees, settles);
        keeps = λ l c has.
            let same = (k l).verdicts c in
            g.tells l c ∙ (g.goes l).gained.keeps c (λ z. has (sym same ∙ z)) ∙ same;
        outside = outside k;
      },
    );
  }

-- the meaning of the back end after round t + 2 of the latest press
pub meant : (s : Setting) (p : Press) (ps : List Press) (m : Meaning) → Backs s (p ∷ ps) m → s.t + 1 < length p.played
    → Meant (opened_with s.n s.t p) p.played m
meant s p ps m backs l = true_if (leb (s.t + 2) (length p.played)) _ _ (le-leb (s.t + 2) (length p.played) (omega arith)) backs

module _ {bound : ℕ} {s : Setting} where
  round_sound : (p : Press) (ps : List Press) (r : Played) (m m' : Meaning) → Sound bound s (record { presses = p ∷ ps; open_now = true }) m
      → round_refusal s.n s.t (running (opened_with s.n s.t p) (rounds_of p.played)) (length p.played) r.round.falls r.round.rows ≡ None
      → Goes s p r m m' → Agrees m' → Settles bound m' → Sound bound s (record { presses = with_round p r ∷ ps; open_now = true }) m'
  round_sound p ps r m m' i accepted g agrees settles =
      let k = meant s p ps m i.backs in
      let grown : AllSound bound s (with_round p r ∷ ps) = (i.each.0, step bound s p r m m' g i.each.1 accepted agrees settles k) in
      elim (cases_lt (length p.played) (s.t + 1)) [
        | inl l ↦
            let e = g.waits l in
            record {
              wide = i.wide;
              some_fall = i.some_fall;
              few = i.few;
              known = known_now bound s (with_round p r ∷ ps) grown;
              room = i.room;
              each = grown;
              for_n = ap (λ (x : Meaning). x.n) e ∙ i.for_n;
              for_t = ap (λ (x : Meaning). x.t) e ∙ i.for_t;
              backs = if_false (leb (s.t + 2) (suc (length p.played))) _ _ (lt-leb (s.t + 2) (suc (length p.played)) (omega arith))
                  (subst (Backs s ps) (sym e) (false_if (leb (s.t + 2) (length p.played)) _ _ (lt-leb (s.t + 2) (length p.played) (omega arith)) i.backs));
              lawful = all_lawful bound s (with_round p r ∷ ps) grown;
            }
        | inr l ↦
            let mean : Meant (opened_with s.n s.t p) (r ∷ p.played) m' = elim (cases_eq (length p.played) (s.t + 1)) [
              | inl e ↦ started bound s p r m m' g i.each.1 e i.for_n i.for_t
              | inr e ↦ went bound s p r m m' g i.each.1 (omega arith) (k (omega arith))
            ] in
            record {
              wide = i.wide;
              some_fall = i.some_fall;
              few = i.few;
              known = known_now bound s (with_round p r ∷ ps) grown;
              room = i.room;
              each = grown;
              for_n = mean.for_n;
              for_t = mean.for_t;
              backs = if_true (leb (s.t + 2) (suc (length p.played))) _ _ (le-leb (s.t + 2) (suc (length p.played)) (omega arith)) mean;
              lawful = all_lawful bound s (with_round p r ∷ ps) grown;
            }
      ]

  pub sound : {cs : List Answered} {show : Show} {m : Meaning} → Led bound s cs show m → Sound bound s show m
  sound (set_up size made) =
      let k = size_ok s.n s.t size in
      record {
        wide = k.most;
        some_fall = k.some;
        few = k.half;
        known = known_now bound s [] tt;
        room = λ e. absurd (both_ways false refl e);
        each = tt;
        for_n = made.for_n;
        for_t = made.for_t;
        backs = made;
        lawful = tt;
      }
  sound (not_done c e why led) = sound led
  sound (press_done {show = show} count place ok ordered led) =
      let i = sound led in
      let shut = past show.open_now _ _ ok in
      let left = past (leb max_pages (length (closed_presses show))) _ _ shut.1 in
      let first : Press = record { ran = running_now s show.presses; place = place; played = [] } in
      let opened : SoundPress bound s first = record {
        ordered = ordered;
        opens = opens_with s.n s.t (running_now s show.presses) place i.few i.known ordered;
        good = tt;
      } in
      record {
        wide = i.wide;
        some_fall = i.some_fall;
        few = i.few;
        known = i.known;
        room = λ e. omega (arith, leb-false max_pages (length (closed_presses show)) left.0, ap length (all_closed show.open_now show.presses shut.0));
        each = (i.each, opened);
        for_n = i.for_n;
        for_t = i.for_t;
        backs = if_false (leb (s.t + 2) 0) _ _ (lt-leb (s.t + 2) 0 (omega arith)) i.backs;
        lawful = all_lawful bound s (first ∷ show.presses) (i.each, opened);
      }
  sound (round_done {ps = ps} {p = p} {m = m} {m' = m'} rig number r ok g agrees settles led) =
      let a = past (not (shows s (record { presses = p ∷ ps; open_now = true }) rig number)) _ _ ok in
      round_sound p ps r m m' (sound led) a.1 g agrees settles
  sound (close_done rig number ok led) =
      let i = sound led in
      record {
        wide = i.wide;
        some_fall = i.some_fall;
        few = i.few;
        known = i.known;
        room = λ e. absurd (both_ways false refl e);
        each = i.each;
        for_n = i.for_n;
        for_t = i.for_t;
        backs = i.backs;
        lawful = i.lawful;
      }

  -- an open show has a press
  pub open_press : {cs : List Answered} {show : Show} {m : Meaning} → Led bound s cs show m → show.open_now ≡ true
      → (p : Press) × (ps : List Press) × (show.presses ≡ p ∷ ps)
  open_press (set_up size made) e = absurd (both_ways false refl e)
  open_press (not_done c r why led) e = open_press led e
  open_press (press_done count place ok ordered led) e = (_, _, refl)
  open_press (round_done rig number r ok g agrees settles led) e = (_, _, refl)
  open_press (close_done rig number ok led) e = absurd (both_ways false refl e)

  pub open_show : {cs : List Answered} {show : Show} {m : Meaning} → Led bound s cs show m → show.open_now ≡ true
      → (p : Press) × (ps : List Press) × (◌≡◌ {A = Show} show (record { presses = p ∷ ps; open_now = true }))
  open_show led e =
      let w = open_press led e in
      (w.0, w.1, λ j. record { presses = w.2 j; open_now = e j })

-- The back end of a rig refuses nothing that an accepted round asks of it, and what it then has is what the history says.
use Rattle.std.proofs.Common.{◌≡◌, ℕ, suc, ◌+◌, ◌-◌, ◌<◌, ◌≤◌, Bool, true, false, not, ◌&&◌, ◌||◌, eqb, ltb, leb, List, [], ◌∷◌, length, None, sym, refl, ap, ◌∙◌, subst, inl, inr, arith}
use mathlib.Core.Path.{fun_ext}
use lib.Count.{ones}
use Rattle.std.proofs.lemmas.List.FromFn.{length-map-range_with_len, get_or-map-range_with_len}
use Rattle.std.proofs.lemmas.Bool.{cases_eq, cases_lt, cond-true, cond-false, eq-eqb, ne_eqb, le-leb, lt-leb, leb-false, lt-ltb, le-ltb}
use Rattle.std.proofs.lemmas.Bool.Decides.{nat_tests}
use Rattle.console_sets.specs.Sets.{member, lowest, inside, all}
use Rattle.console_sets.proofs.Digits.{ones-count, member-all, member_above, inside_from}
use Rattle.console_sets.proofs.Lowest.{zero-lowest}
use Rattle.rounds.specs.Items.{at}
use Rattle.rounds.specs.Bound.{max_rounds}
use Rattle.rounds.specs.Rounds.{quorum, completing, bad_entry}
use Rattle.rounds.specs.Checks.{start_refusal, round_refusal}
use Rattle.back_end.specs.Meaning.{Meaning}
use Rattle.back_end.specs.Calls.{Started}
use Rattle.front.specs.Consoles.{state_of}
use Rattle.front.specs.Deciding.{entries_after}
use Rattle.front.specs.Runs.{Opening, Round, running, entries, Accepted}
use Rattle.front.specs.Runs as front
use Rattle.front.proofs.Steps.{within, below, ok}
use Rattle.front.proofs.HandOver.{handed_over}
use Rattle.rig.specs.declared.panel.Panel.{Panel}
use Rattle.rig.specs.declared.panel.Book.{Book}
use Rattle.rig.specs.Presses.{Press, rounds_of, opened_with}
use Rattle.rig.specs.Steps.{entry_list, back_refusal, told, Handed}
use Rattle.rig.specs.Shows.{Setting, Show, Answered, Stands, Goes, Led}
use Rattle.rig.proofs.Good.{none_outside, same_length, accepted_rounds, front_state}
use Rattle.rig.proofs.Led.{SoundPress, sound, open_show, past, meant}

-- after fewer rounds the same round is accepted too
fewer : (n t running a b falls : ℕ) (rows : List ℕ) → b ≤ a → round_refusal n t running a falls rows ≡ None → round_refusal n t running b falls rows ≡ None
fewer n t running a b falls rows l e =
    let p = past (leb max_rounds a) _ _ e in
    cond-false (leb max_rounds b) _ _ (lt-leb max_rounds b (omega (arith, leb-false max_rounds a p.0))) ∙ p.1

-- a start with n entries that are consoles of a quorum is accepted
starts_ok : (n t running : ℕ) (entries : List ℕ) → length entries ≡ n → ((c : ℕ) → member running c ≡ true → c < n) → n ≤ ones running + t
    → ((c : ℕ) → member running c ≡ true → (a : ℕ) × (at entries c ≡ suc a) × (a < n)) → start_refusal n t running entries ≡ None
starts_ok n t running entries full inner enough entered =
    cond-false (not (eqb (length entries) n)) _ _ (ap not (eq-eqb (length entries) n full))
    ∙ cond-false (not (inside running (all n))) _ _ (ap not (inside_from running (all n) (λ c m. member-all n c ∙ lt-ltb c n (inner c m))))
    ∙ cond-false (not (quorum n t running)) _ _ (ap not (le-leb (n - t) (ones running) (omega arith)))
    ∙ cond-true (eqb (lowest (bad_entry n running entries) n) 0) _ _ (eq-eqb (lowest (bad_entry n running entries) n) 0
    (zero-lowest (bad_entry n running entries) n (λ c l. fine (member running c) (at entries c) (entered c))))
  where
    fine : (runs : Bool) (entry : ℕ) → (runs ≡ true → (a : ℕ) × (entry ≡ suc a) × (a < n)) → (runs && (eqb entry 0 || ltb n entry)) ≡ false
    fine false entry w = refl
    fine true entry w =
        let a = w refl in
        let low : 0 < entry = omega (arith, a.1) in
        let high : entry ≤ n = omega (arith, a.1, a.2) in
        grind (arith, nat_tests)

module _ {bound : ℕ} {s : Setting} {cs : List Answered} {p : Press} {ps : List Press} {m : Meaning} {panel : Panel} {book : Book}
    (led : Led bound s cs (record { presses = p ∷ ps; open_now = true }) m) (st : Stands s (record { presses = p ∷ ps; open_now = true }) panel book)
    (falls : ℕ) (rows : List ℕ) (accepted : round_refusal panel.n panel.t panel.running panel.rounds falls rows ≡ None) where
  -- the opening, and the round after the press's rounds
  abbrev o : Opening
  o = opened_with s.n s.t p

  abbrev run : List Round
  run = record { falls = falls; rows = rows } ∷ rounds_of p.played

  here : SoundPress bound s p
  here = (sound led).each.1

  who : completing panel.running falls ≡ running o run
  who = ap (λ (x : ℕ). completing x falls) st.who

  accepted_here : round_refusal s.n s.t (running o (rounds_of p.played)) (length p.played) falls rows ≡ None
  accepted_here = (λ j. round_refusal (sym st.for_n j) (sym st.for_t j) (sym st.who j) (sym st.counted j) falls rows) ∙ accepted

  all_accepted : Accepted o run
  all_accepted = (
    accepted_rounds o bound p.played here.good,
    ap (λ (k : ℕ). round_refusal s.n s.t (running o (rounds_of p.played)) k falls rows) (same_length p.played) ∙ accepted_here,
  )

  -- the entries that the panel gives in round t + 2 are the history's
  entered : length p.played ≡ s.t + 1 → (c : ℕ) → c < s.n → at (entry_list panel falls rows) c ≡ entries o run c
  entered e c l =
      let states : state_of panel.consoles ≡ front.state o (rounds_of p.played) = fun_ext st.has ∙ front_state o p.played (omega arith) in
      get_or-map-range_with_len (entries_after panel.n panel.t (completing panel.running falls) rows (state_of panel.consoles)) 0 panel.n c c 0
      (omega (arith, st.for_n)) (omega arith)
      ∙ (λ j. entries_after (st.for_n j) (st.for_t j) (who j) rows (states j) c)
      ∙ sym (cond-true (eqb (length (rounds_of p.played)) (s.t + 1)) _ _ (eq-eqb (length (rounds_of p.played)) (s.t + 1) (same_length p.played ∙ e)))

  starts_well : length p.played ≡ s.t + 1 → start_refusal m.n m.t (completing panel.running falls) (entry_list panel falls rows) ≡ None
  starts_well e =
      let i = sound led in
      let hands = handed_over o here.opens run all_accepted (omega (arith, same_length p.played)) in
      (λ j. start_refusal (i.for_n j) (i.for_t j) (who j) (entry_list panel falls rows))
      ∙ starts_ok s.n s.t (running o run) (entry_list panel falls rows)
      (length-map-range_with_len (entries_after panel.n panel.t (completing panel.running falls) rows (state_of panel.consoles)) 0 panel.n ∙ st.for_n)
      (below o here.opens run)
      (omega (arith, (ok o here.opens _ (rounds_of p.played) all_accepted).enough, ones-count s.n (running o run) (within o here.opens run)))
      (λ c mc.
      let a = hands.entry_ran c mc in
      (a.0, entered e c (below o here.opens run c mc) ∙ a.1, below o here.opens [] a.0 a.2))

  pub willing : back_refusal panel falls rows m ≡ None
  willing =
      elim (cases_lt panel.rounds (panel.t + 1)) [
        | inl l ↦ cond-true (ltb panel.rounds (panel.t + 1)) _ _ (lt-ltb panel.rounds (panel.t + 1) l)
        | inr l ↦
            cond-false (ltb panel.rounds (panel.t + 1)) _ _ (le-ltb panel.rounds (panel.t + 1) l)
            ∙ (elim (cases_eq panel.rounds (panel.t + 1)) [
              | inl e ↦ cond-true (eqb panel.rounds (panel.t + 1)) _ _ (eq-eqb panel.rounds (panel.t + 1) e) ∙ starts_well (omega (arith, st.counted, st.for_t))
              | inr e ↦
                  let k = meant s p ps m (sound led).backs (omega (arith, st.counted, st.for_t)) in
                  cond-false (eqb panel.rounds (panel.t + 1)) _ _ (ne_eqb panel.rounds (panel.t + 1) e)
                  ∙ (λ j. round_refusal (k.for_n j) (k.for_t j) (k.runs j) m.rounds falls rows)
                  ∙ fewer s.n s.t (running o (rounds_of p.played)) (length p.played) m.rounds falls rows (omega (arith, k.since)) accepted_here
            ])
      ]

  module _ {m' : Meaning} (handed : Handed panel falls rows m m') where
    -- the verdicts that are told are all that there are: beyond the n consoles there is none
    tells_all : s.t + 1 < length p.played → (c : ℕ) → told panel m' c ≡ at m'.verdicts c
    tells_all l c =
        let w = handed.goes (omega (arith, st.counted, st.for_t)) in
        let k = meant s p ps m (sound led).backs l in
        let same : m'.n ≡ s.n = w.same_n ∙ k.for_n in
        cond-true (ltb (panel.t + 1) panel.rounds) _ _ (lt-ltb (panel.t + 1) panel.rounds (omega (arith, st.counted, st.for_t)))
        ∙ (elim (cases_lt c m'.n) [
          | inl b ↦ cond-true (ltb c m'.n) _ _ (lt-ltb c m'.n b)
          | inr b ↦
              let out : member (completing m.running falls) c ≡ false =
              ap (λ (x : ℕ). member (completing x falls) c) k.runs ∙ member_above s.n (running o run) c (within o here.opens run) (omega arith) in
              cond-false (ltb c m'.n) _ _ (le-ltb c m'.n b)
              ∙ sym (w.gained.others c out ∙ k.verdicts c ∙ none_outside bound o p.played here.good c (omega arith))
        ])

    pub goes : Goes s p (record { round = record { falls = falls; rows = rows }; verdicts = told panel m' }) m m'
    goes = record {
      waits = λ l. handed.waits (omega (arith, st.counted, st.for_t));
      starts = λ e.
          (entry_list panel falls rows, entered e, subst (λ (x : ℕ). Started x (entry_list panel falls rows) m m') who (handed.starts (omega (arith, st.counted, st.for_t))));
      goes = λ l. handed.goes (omega (arith, st.counted, st.for_t));
      silent = λ l c. cond-false (ltb (panel.t + 1) panel.rounds) _ _ (le-ltb (panel.t + 1) panel.rounds (omega (arith, st.counted, st.for_t)));
      tells = tells_all;
    }

-- the same of any show with an open press
pub willing_open : {bound : ℕ} {s : Setting} {cs : List Answered} {show : Show} {m : Meaning} {panel : Panel} {book : Book}
    → Led bound s cs show m → Stands s show panel book → show.open_now ≡ true
    → (falls : ℕ) (rows : List ℕ) → round_refusal panel.n panel.t panel.running panel.rounds falls rows ≡ None → back_refusal panel falls rows m ≡ None
willing_open {bound = bound} {s = s} {cs = cs} {m = m} {panel = panel} {book = book} led st e falls rows accepted =
    let w = open_show led e in
    willing (subst (λ (x : Show). Led bound s cs x m) w.2 led) (subst (λ (x : Show). Stands s x panel book) w.2 st) falls rows accepted

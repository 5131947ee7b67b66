-- Strings of calls: a rig that some calls led to, one call more, and all of them.
use Rattle.std.proofs.Common.{◌≡◌, ℕ, ◌+◌, ◌<◌, ◌≤◌, Bool, true, false, not, ◌&&◌, eqb, ◌⊎◌, List, [], ◌∷◌, ◌++◌, reverse, length, get_or, set, Some, None, Option, sym, refl, ap, ◌∙◌, subst, inl, inr, arith}
use Rattle.std.proofs.lemmas.List.{reverse-append, length-append, get_or-set_same, get_or-set_other, get_or_push, get_or_append_left}
use Rattle.std.proofs.lemmas.Bool.{cases_eq, cases_lt, cases_Bool}
use Rattle.std.specs.declared.cmp.Ordering.{Ordering}
use Rattle.orders.specs.Orders.{Lawful as Ordered}
use Rattle.rounds.specs.Refusals.{refused}
use Rattle.rounds.specs.declared.Refusal.{Refusal}
use Rattle.rounds.specs.declared.Refusal.TheVariants.{PressOpen, WrongTicket}
use Rattle.back_end.specs.Meaning.{Meaning}
use Rattle.back_end.specs.Laws.{Agrees, Settles}
use Rattle.rig.specs.declared.panel.Panel.{Panel}
use Rattle.rig.specs.declared.panel.Book.{Book}
use Rattle.rig.specs.Presses.{Press}
use Rattle.rig.specs.Steps.{fits, turn_refusal}
use Rattle.rig.specs.Shows.{Setting, Show, Asked, press, round, close, Answered, closed_presses, shows, refusal, Stands, Led, not_done, Ends, same, more, with_answers, Performed}
use Rattle.orders.proofs.Lawful.{lawful_between}
use Rattle.rig.specs.declared.calls.Call.{Call}
use Rattle.rig.specs.declared.calls.Call.TheVariants.{Press as Press', Round as Round', Close as Close'}
use Rattle.rig.specs.Calls.{asked, call_refusal, Left, Done}
use Rattle.rig.proofs.Led.{sound, past, all_closed, open_press}
use Rattle.rig.proofs.Lift.{passed, opens, press_same, press_stands, press_led, close_same, close_stands, close_led, round_same, round_stands, round_led, same_fits}

-- a history that a longer string led to
pub record Reached (bound : ℕ) (s : Setting) (show : Show) (cs : List Answered) (panel : Panel) (book : Book) (m : Meaning) : Type 0 where
  pub after : Show
  pub grows : Ends (closed_presses show) (closed_presses after)
  pub led : Led bound s cs after m
  pub stands : Stands s after panel book

ends_trans : {a b c : List Press} → Ends a b → Ends b c → Ends a c
ends_trans e same = e
ends_trans e (more q f) = more q (ends_trans e f)

-- what a call of a kind of proposals that is in order, on a back end that keeps its laws, brings with it
abbrev pub Brings : ℕ → Asked → Meaning → Type 0
Brings bound (press count place) m' = Ordered place
Brings bound (round rig number r) m' = Agrees m' × Settles bound m'
Brings bound (close rig number) m' = Unit {0}

-- an open show has a latest press
record Opened (bound : ℕ) (s : Setting) (cs : List Answered) (m : Meaning) (now : Show) (panel : Panel) (book : Book) : Type 0 where
  pub latest : Press
  pub before : List Press
  pub is : now ≡ record { presses = latest ∷ before; open_now = true }
  pub led : Led bound s cs (record { presses = latest ∷ before; open_now = true }) m
  pub stands : Stands s (record { presses = latest ∷ before; open_now = true }) panel book

open_show : {bound : ℕ} {s : Setting} {cs : List Answered} {m : Meaning} {now : Show} {panel : Panel} {book : Book} → Led bound s cs now m → Stands s now panel book
    → now.open_now ≡ true → Opened bound s cs m now panel book
open_show {bound} {s} {cs} {m} {now} {panel} {book} led st e =
    let q = open_press led e in
    let path : now ≡ record { presses = q.0 ∷ q.1; open_now = true } = λ k. record { presses = q.2 k; open_now = e k } in
    record {
      latest = q.0;
      before = q.1;
      is = path;
      led = subst (λ (x : Show). Led bound s cs x m) path led;
      stands = subst (λ (x : Show). Stands s x panel book) path st;
    }

module _ {bound : ℕ} {s : Setting} {cs : List Answered} {panel : Panel} {book : Book} {m : Meaning} where
  -- the refusal that a rig gives is that of its history
  same_refusal : (call : Asked) (now : Show) → Led bound s cs now m → Stands s now panel book → call_refusal call panel book m ≡ refusal s now call
  same_refusal (press count place) now led st = press_same led st count place
  same_refusal (close rig number) now led st = close_same led st rig number
  same_refusal (round rig number r) now led st = go (cases_Bool now.open_now)
    where
      no_ticket : (b : Bool) (x : Option Refusal) → b ≡ false → refused (not b) WrongTicket x ≡ Some WrongTicket
      no_ticket b x e = ap (λ (y : Bool). refused (not y) WrongTicket x) e

      go : (now.open_now ≡ true) ⊎ (now.open_now ≡ false) → turn_refusal panel m rig number r.falls r.rows ≡ refusal s now (round rig number r)
      go (inl e) =
          let o = open_show led st e in
          round_same o.led o.stands rig number r.falls r.rows ∙ ap (λ (x : Show). refusal s x (round rig number r)) (sym o.is)
      go (inr e) =
          let f : shows s now rig number ≡ false = ap (λ (b : Bool). b && (eqb rig s.number && eqb number (length now.presses))) e in
          no_ticket (fits panel rig number) _ (same_fits led st rig number ∙ f) ∙ sym (no_ticket (shows s now rig number) _ f)

  -- an accepted call leads on
  one_more : (call : Asked) (show now : Show) (panel' : Panel) (book' : Book) (m' : Meaning)
      → Ends (closed_presses show) (closed_presses now) → Led bound s cs now m → Stands s now panel book
      → call_refusal call panel book m ≡ None → Left None call panel book m panel' book' m' → Brings bound call m'
      → Reached bound s show (record { call = call; answer = None } ∷ cs) panel' book' m'
  one_more (press count place) show now panel' book' m' grows led st ok w ordered =
      let shut : now.open_now ≡ false = sym st.is_open ∙ (past panel.open PressOpen _ ok).0 in
      record {
        after = _;
        grows = subst (Ends (closed_presses show)) (all_closed now.open_now now.presses shut) grows;
        led = subst (Led bound s _ _) (sym w.same_back) (press_led led st count place ok ordered);
        stands = subst (Stands s _ panel') (sym w.same_book) (press_stands led st count place panel' ok w.pressed);
      }
  one_more (round rig number r) show now panel' book' m' grows led st ok w keeps =
      let e : now.open_now ≡ true = sym st.is_open ∙ opens panel.open _ (passed (fits panel rig number) (past (not (fits panel rig number)) WrongTicket _ ok).0) in
      let o = open_show led st e in
      record {
        after = _;
        grows = subst (λ (x : Show). Ends (closed_presses show) (closed_presses x)) o.is grows;
        led = round_led o.led o.stands rig number r.falls r.rows m' panel' ok w.advanced w.handed keeps.0 keeps.1;
        stands = subst (Stands s _ panel') (sym w.same_book) (round_stands o.led o.stands rig number r.falls r.rows m' panel' ok w.advanced w.handed);
      }
  one_more (close rig number) show now panel' book' m' grows led st ok w keeps =
      let e : now.open_now ≡ true = sym st.is_open ∙ opens panel.open _ (passed (fits panel rig number) (past (not (fits panel rig number)) WrongTicket _ ok).0) in
      let o = open_show led st e in
      record {
        after = _;
        grows = ends_trans (subst (λ (x : Show). Ends (closed_presses show) (closed_presses x)) o.is grows) (more o.latest same);
        led = subst (Led bound s _ _) (sym w.same_back) (close_led o.led o.stands rig number ok);
        stands = close_stands o.led o.stands panel' book' w.closed;
      }

  pub step_on : (answer : Option Refusal) (call : Asked) (show : Show) (panel' : Panel) (book' : Book) (m' : Meaning)
      → Done call answer panel book m panel' book' m' → Brings bound call m' → Reached bound s show cs panel book m
      → Reached bound s show (record { call = call; answer = answer } ∷ cs) panel' book' m'
  step_on None call show panel' book' m' d b r =
      one_more call show r.after panel' book' m' r.grows r.led r.stands (sym d.answered) d.left b
  step_on (Some e) call show panel' book' m' d b r = record {
    after = r.after;
    grows = r.grows;
    led = not_done call e (sym (same_refusal call r.after r.led r.stands) ∙ sym d.answered) (subst (Led bound s cs r.after) (sym d.left.2) r.led);
    stands = subst (Stands s r.after panel') (sym d.left.1) (subst (λ (x : Panel). Stands s r.after x book) (sym d.left.0) r.stands);
  }

-- ---- all the calls

push : (bs : List Asked) (os : List (Option Refusal)) (a : Asked) (o : Option Refusal) → length bs ≡ length os
    → with_answers (bs ++ a ∷ []) (os ++ o ∷ []) ≡ with_answers bs os ++ record { call = a; answer = o } ∷ []
push [] [] a o e = refl
push [] (x ∷ os) a o e = absurd (omega arith)
push (x ∷ bs) [] a o e = absurd (omega arith)
push (x ∷ bs) (y ∷ os) a o e = ap (λ (l : List Answered). record { call = x; answer = y } ∷ l) (push bs os a o (omega arith))

-- what is known after some of the calls
pub record Partly (bound : ℕ) (s : Setting) (cs : List Answered) (show : Show) (asked : List Asked) (panel : Panel) (book : Book) (m : Meaning)
    (answers answers' : List (Option Refusal)) : Type 0 where
  pub given : List (Option Refusal)
  pub full : length given ≡ length asked
  pub written : (k : ℕ) → k < length asked → k < length answers → get_or answers' k None ≡ get_or given k None
  pub beyond : (k : ℕ) → length asked ≤ k → get_or answers' k None ≡ get_or answers k None
  pub long : length answers' ≡ length answers
  pub reached : Reached bound s show (reverse (with_answers asked given) ++ cs) panel book m

pub partly_none : {bound : ℕ} {s : Setting} {cs : List Answered} {show : Show} {panel : Panel} {book : Book} {m : Meaning} (answers : List (Option Refusal))
    → Led bound s cs show m → Stands s show panel book → Partly bound s cs show [] panel book m answers answers
partly_none {show = show} answers led st = record {
  given = [];
  full = refl;
  written = λ k l. absurd (omega arith);
  beyond = λ k l. refl;
  long = refl;
  reached = record { after = show; grows = same; led = led; stands = st };
}

pub partly_more : {bound : ℕ} {s : Setting} {cs : List Answered} {show : Show} (asked : List Asked) {panel : Panel} {book : Book} {m : Meaning} {answers answers' : List (Option Refusal)}
    (call : Asked) (o : Option Refusal) {panel' : Panel} {book' : Book} {m' : Meaning} (answers'' : List (Option Refusal))
    → Partly bound s cs show asked panel book m answers answers' → Done call o panel book m panel' book' m' → Brings bound call m'
    → (length asked < length answers' → answers'' ≡ set answers' (length asked) o) → (length answers' ≤ length asked → answers'' ≡ answers') → length answers'' ≡ length answers'
    → Partly bound s cs show (asked ++ call ∷ []) panel' book' m' answers answers''
partly_more {bound} {s} {cs} {show} asked {panel} {book} {m} {answers} {answers'} call o {panel'} {book'} {m'} answers'' i d b put past_it keep =
    let more_asked : length (asked ++ call ∷ []) ≡ length asked + 1 = length-append asked (call ∷ []) in
    let more_given : length (i.given ++ o ∷ []) ≡ length i.given + 1 = length-append i.given (o ∷ []) in
    record {
      given = i.given ++ o ∷ [];
      full = omega (arith, i.full);
      written = λ k l r. elim (cases_eq k (length asked)) [
        | inl e ↦ ap (λ (x : List (Option Refusal)). get_or x k None) (put (omega (arith, i.long)))
            ∙ ap (λ (x : ℕ). get_or (set answers' (length asked) o) x None) e ∙ get_or-set_same answers' (length asked) o None (omega (arith, i.long))
            ∙ sym (get_or_push i.given o None k (i.full ∙ sym e))
        | inr e ↦ other k e ∙ i.written k (omega arith) r ∙ sym (get_or_append_left i.given (o ∷ []) None k (omega (arith, i.full)))
      ];
      beyond = λ k l. other k (λ e. omega arith) ∙ i.beyond k (omega arith);
      long = keep ∙ i.long;
      reached = subst (λ (x : List Answered). Reached bound s show x panel' book' m') (sym string)
          (step_on o call show panel' book' m' d b i.reached);
    }
  where
    other : (k : ℕ) → (k ≡ length asked → ⊥) → get_or answers'' k None ≡ get_or answers' k None
    other k ne = elim (cases_lt (length asked) (length answers')) [
      | inl r ↦ ap (λ (x : List (Option Refusal)). get_or x k None) (put r) ∙ get_or-set_other answers' (length asked) k o None ne
      | inr r ↦ ap (λ (x : List (Option Refusal)). get_or x k None) (past_it r)
    ]

    string : reverse (with_answers (asked ++ call ∷ []) (i.given ++ o ∷ [])) ++ cs ≡ record { call = call; answer = o } ∷ (reverse (with_answers asked i.given) ++ cs)
    string =
        ap (λ (x : List Answered). reverse x ++ cs) (push asked i.given call o (sym i.full))
        ∙ ap (λ (x : List Answered). x ++ cs) (reverse-append (with_answers asked i.given) (record { call = call; answer = o } ∷ []))

pub performed : {bound : ℕ} {s : Setting} {cs : List Answered} {show : Show} (asked : List Asked) {panel : Panel} {book : Book} {m : Meaning} {answers answers' : List (Option Refusal)}
    → Partly bound s cs show asked panel book m answers answers' → Performed bound s cs show asked panel book m answers answers'
performed asked i =
    let k = sound i.reached.led in
    record {
      given = i.given;
      full = i.full;
      written = i.written;
      beyond = i.beyond;
      after = i.reached.after;
      grows = i.reached.grows;
      led = i.reached.led;
      stands = i.reached.stands;
      backs = k.backs;
      lawful = k.lawful;
    }

-- what each call brings with it, from the laws of its order and of its back end
pub brings : {P : Type 0} (places : P → P → Ordering) → Ordered places → (bound : ℕ) (call : Call P) (m : Meaning) → Agrees m → Settles bound m → Brings bound (asked places call) m
brings places laws bound (Press' proposals) m ag se = lawful_between places laws proposals.now
brings places laws bound (Round' rig number falls rows) m ag se = (ag, se)
brings places laws bound (Close' rig number) m ag se = tt

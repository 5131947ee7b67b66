-- What the calls answer and leave, lifted to the history: where a string of calls led to a rig, the answer is the refusal that the history gives, and an
-- accepted call leads to the longer history, whose rig is the one that the call leaves.
use Rattle.std.proofs.Common.{◌≡◌, ℕ, suc, ◌+◌, ◌<◌, ◌≤◌, Bool, true, false, cond, not, ◌&&◌, eqb, leb, ◌≢◌, List, [], ◌∷◌, length, get_or, set, Some, None, Option, sym, refl, ap, ◌∙◌, subst, add-one, arith}
use mathlib.Core.Path.{fun_ext}
use Rattle.std.proofs.lemmas.List.{get_or-set_same, get_or-set_other}
use Rattle.std.proofs.lemmas.Bool.{both_ways, and_parts}
use Rattle.std.specs.declared.cmp.Ordering.{Ordering}
use Rattle.orders.specs.Orders.{Lawful as Ordered}
use Rattle.orders.specs.Ranks.{rank}
use Rattle.rounds.specs.Items.{at}
use Rattle.rounds.specs.Rounds.{completing}
use Rattle.rounds.specs.Refusals.{refused, either}
use Rattle.rounds.specs.Checks.{size_refusal, make_refusal, round_refusal}
use Rattle.rounds.specs.declared.Refusal.{Refusal}
use Rattle.rounds.specs.declared.Refusal.TheVariants.{PressOpen, BookFull, ProposalCount, WrongTicket}
use Rattle.back_end.specs.Meaning.{Meaning}
use Rattle.back_end.specs.Calls.{Made}
use Rattle.back_end.specs.Laws.{Agrees, Settles}
use Rattle.front.specs.Consoles.{state_of, opened}
use Rattle.front.specs.Halting.{after_halting}
use Rattle.front.specs.Deciding.{after_deciding}
use Rattle.front.specs.Runs.{running}
use Rattle.front.specs.Runs as front
use Rattle.rig.specs.declared.page.Page.{Page}
use Rattle.rig.specs.declared.panel.Panel.{Panel}
use Rattle.rig.specs.declared.panel.Book.{Book}
use Rattle.rig.specs.Bound.{max_pages}
use Rattle.rig.specs.Later.{after_later, all_decided}
use Rattle.rig.specs.Presses.{Played, Press, consoles, running_after}
use Rattle.rig.specs.Steps.{SetUp, press_refusal, Pressed, fits, back_refusal, turn_refusal, told, Advanced, Handed, close_refusal, end_of, page_now, Closed}
use Rattle.rig.specs.Shows.{Setting, Show, press, round, close, Answered, first_day, Paged, blank_page, Pages, Stands, shows, refusal, pressed, with_round, closed_now, Led, set_up, press_done, round_done, close_done}
use Rattle.rig.proofs.Led.{sound, past, all_closed}
use Rattle.rig.proofs.Willing.{willing, goes}

-- ---- what is accepted

-- two checks that refuse nothing
first_none : (x y : Option Refusal) → either x y ≡ None → x ≡ None
first_none None y h = refl
first_none (Some e) y h = h

-- a test that passed
pub passed : (b : Bool) → not b ≡ false → b ≡ true
passed true h = refl
passed false h = absurd (both_ways true h refl)

-- a ticket that fits is one of an open press
pub opens : (a b : Bool) → (a && b) ≡ true → a ≡ true
opens a b h = (and_parts a b h).0

module _ {bound : ℕ} {s : Setting} {cs : List Answered} {show : Show} {m : Meaning} (led : Led bound s cs show m)
    {panel : Panel} {book : Book} (st : Stands s show panel book) where
  -- ---- press

  pub press_same : (count : ℕ) (place : ℕ → ℕ → Ordering) → press_refusal panel book count ≡ refusal s show (press count place)
  press_same count place = λ k. refused (st.is_open k) PressOpen (refused (leb max_pages (st.filled k)) BookFull (refused (not (eqb count (st.for_n k))) ProposalCount None))

  pub press_stands : (count : ℕ) (place : ℕ → ℕ → Ordering) (panel' : Panel) → press_refusal panel book count ≡ None → Pressed panel book place panel'
      → Stands s (pressed s show place) panel' book
  press_stands count place panel' ok w =
      let shut = sym st.is_open ∙ (past panel.open PressOpen _ ok).0 in
      let all = all_closed show.open_now show.presses shut in
      let filled = st.filled ∙ ap length all in
      record {
        is_number = w.is_number ∙ st.is_number;
        for_n = w.for_n ∙ st.for_n;
        for_t = w.for_t ∙ st.for_t;
        who = w.who ∙ st.who;
        press = w.press ∙ add-one book.count ∙ ap suc filled;
        is_open = w.is_open;
        counted = w.counted;
        has = λ c. w.consoles c ∙ ap (λ (r : ℕ). opened r c) st.who;
        ranks = λ c. w.ranks c ∙ (λ k. rank (st.for_n k) (st.who k) place c);
        filled = filled;
        pages = subst (λ (ps : List Press). Pages s ps book.pages) all st.pages;
      }

  pub press_led : (count : ℕ) (place : ℕ → ℕ → Ordering) → press_refusal panel book count ≡ None → Ordered place
      → Led bound s (record { call = press count place; answer = None } ∷ cs) (pressed s show place) m
  press_led count place ok o = press_done count place (sym (press_same count place) ∙ ok) o led

  -- ---- close

  pub same_fits : (rig number : ℕ) → fits panel rig number ≡ shows s show rig number
  same_fits rig number = λ k. st.is_open k && (eqb rig (st.is_number k) && eqb number (st.press k))

  pub close_same : (rig number : ℕ) → close_refusal panel rig number ≡ refusal s show (close rig number)
  close_same rig number = ap (λ (b : Bool). refused (not b) WrongTicket None) (same_fits rig number)

  pub close_led : (rig number : ℕ) → close_refusal panel rig number ≡ None → Led bound s (record { call = close rig number; answer = None } ∷ cs) (closed_now show) m
  close_led rig number ok = close_done rig number (sym (close_same rig number) ∙ ok) led

-- ---- the book after a close

pages_kept : (s : Setting) (ps : List Press) (pages : List Page) (i : ℕ) (page : Page) → length ps ≤ i → Pages s ps pages → Pages s ps (set pages i page)
pages_kept s [] pages i page l h = tt
pages_kept s (p ∷ ps) pages i page l h =
    let ne : length ps ≢ i = omega arith in
    (pages_kept s ps pages i page (omega arith) h.0, subst (Paged s (suc (length ps)) p) (sym (get_or-set_other pages i (length ps) page blank_page ne)) h.1)

module _ {bound : ℕ} {s : Setting} {cs : List Answered} {p : Press} {ps : List Press} {m : Meaning} (led : Led bound s cs (record { presses = p ∷ ps; open_now = true }) m)
    {panel : Panel} {book : Book} (st : Stands s (record { presses = p ∷ ps; open_now = true }) panel book) where
  states : state_of panel.consoles ≡ consoles s.n s.t p
  states = fun_ext st.has

  pub close_stands : (panel' : Panel) (book' : Book) → Closed panel book panel' book' → Stands s (record { presses = p ∷ ps; open_now = false }) panel' book'
  close_stands panel' book' w =
      let free : book.count < max_pages = omega (arith, st.filled, (sound led).room refl) in
      let at_end : book.count ≡ length ps = st.filled in
      record {
        is_number = w.is_number ∙ st.is_number;
        for_n = w.for_n ∙ st.for_n;
        for_t = w.for_t ∙ st.for_t;
        who = w.who ∙ st.who;
        press = w.press ∙ st.press;
        is_open = w.closed;
        counted = w.counted ∙ st.counted;
        has = λ c. ap (λ xs. state_of xs c) w.consoles ∙ st.has c;
        ranks = λ c. ap (λ xs. at xs c) w.ranks ∙ st.ranks c;
        filled = w.count free ∙ add-one book.count ∙ ap suc at_end;
        pages = subst (Pages s (p ∷ ps)) (sym (w.pages free)) (
          pages_kept s ps book.pages book.count (page_now panel) (omega arith) st.pages,
          subst (Paged s (suc (length ps)) p)
              (sym (ap (λ (i : ℕ). get_or (set book.pages book.count (page_now panel)) i blank_page) (sym at_end) ∙ get_or-set_same book.pages book.count (page_now panel) blank_page (omega (arith, book.long))))
              paged,
        );
      }
    where
      paged : Paged s (suc (length ps)) p (page_now panel)
      paged = record {
        numbered = st.press;
        ended = λ k. end_of (all_decided (st.for_n k) (st.who k) (states k));
        counted = st.counted;
        has = st.has;
      }

  -- ---- round

  module _ (rig number falls : ℕ) (rows : List ℕ) where
    same_round : round_refusal panel.n panel.t panel.running panel.rounds falls rows
        ≡ round_refusal s.n s.t (running_after s.n s.t p) (length p.played) falls rows
    same_round = λ k. round_refusal (st.for_n k) (st.for_t k) (st.who k) (st.counted k) falls rows

    nothing_more : (x y : Option Refusal) → (x ≡ None → y ≡ None) → either x y ≡ x
    nothing_more None y h = h refl
    nothing_more (Some e) y h = refl

    pub round_same : turn_refusal panel m rig number falls rows ≡ refusal s (record { presses = p ∷ ps; open_now = true }) (round rig number (record { falls = falls; rows = rows }))
    round_same =
        ap (λ (x : Option Refusal). refused (not (fits panel rig number)) WrongTicket x) (nothing_more _ (back_refusal panel falls rows m) (λ ok. willing led st falls rows ok) ∙ same_round)
        ∙ ap (λ (b : Bool). refused (not b) WrongTicket (round_refusal s.n s.t (running_after s.n s.t p) (length p.played) falls rows)) (same_fits led st rig number)

    module _ (m' : Meaning) (panel' : Panel) (ok : turn_refusal panel m rig number falls rows ≡ None) (adv : Advanced panel falls rows (told panel m') panel') (handed : Handed panel falls rows m m') where
      accepted : round_refusal panel.n panel.t panel.running panel.rounds falls rows ≡ None
      accepted = first_none _ _ (past (not (fits panel rig number)) WrongTicket _ ok).1

      played : Played
      played = record { round = record { falls = falls; rows = rows }; verdicts = told panel m' }

      pub round_led : Agrees m' → Settles bound m'
          → Led bound s (record { call = round rig number (record { falls = falls; rows = rows }); answer = None } ∷ cs)
          (record { presses = with_round p (record { round = record { falls = falls; rows = rows }; verdicts = told panel m' }) ∷ ps; open_now = true }) m'
      round_led ag se = round_done rig number (record { round = record { falls = falls; rows = rows }; verdicts = told panel m' }) (sym round_same ∙ ok) (goes led st falls rows accepted handed) ag se led

      pub round_stands : Stands s (record { presses = with_round p (record { round = record { falls = falls; rows = rows }; verdicts = told panel m' }) ∷ ps; open_now = true }) panel' book
      unfolding front.after
      round_stands =
          let who = ap (λ (r : ℕ). completing r falls) st.who in
          let k = add-one panel.rounds ∙ ap suc st.counted in
          record {
            is_number = adv.is_number ∙ st.is_number;
            for_n = adv.for_n ∙ st.for_n;
            for_t = adv.for_t ∙ st.for_t;
            who = adv.who ∙ who;
            press = adv.press ∙ st.press;
            is_open = adv.is_open ∙ st.is_open;
            counted = adv.counted ∙ k;
            has = λ c. adv.consoles c ∙ (λ j.
                cond (leb (k j) (st.for_t j + 2))
                (cond (leb (k j) (st.for_t j + 1)) (after_halting (st.for_n j) (fun_ext st.ranks j) (who j) rows (states j))
                (cond (eqb (k j) (st.for_t j + 2)) (after_deciding (st.for_n j) (st.for_t j) (who j) rows (states j)) (states j)))
                (after_later (st.for_n j) (k j) (who j) rows (told panel m') (states j)) c);
            ranks = λ c. ap (λ xs. at xs c) adv.ranks ∙ st.ranks c;
            filled = st.filled;
            pages = st.pages;
          }

-- ---- set up

pub first_stands : (number n t : ℕ) (panel : Panel) (book : Book) → SetUp number n t panel book → Stands (record { number = number; n = n; t = t }) first_day panel book
first_stands number n t panel book w = record {
  is_number = w.is_number;
  for_n = w.for_n;
  for_t = w.for_t;
  who = w.who;
  press = w.press;
  is_open = w.closed;
  counted = w.counted;
  has = w.consoles;
  ranks = w.ranks;
  filled = w.empty;
  pages = tt;
}

-- an accepted making of a back end has a size that a rig can have
pub sized : (serves : Bool) (n t : ℕ) → make_refusal serves n t ≡ None → size_refusal n t ≡ None
sized serves n t h = first_none (size_refusal n t) _ h

-- a rig that was just set up
pub begun : (bound number n t : ℕ) (m : Meaning) (serves : Bool) → make_refusal serves n t ≡ None → Made n t m → Led bound (record { number = number; n = n; t = t }) [] first_day m
begun bound number n t m serves h made = set_up (sized serves n t h) made

-- A whole show: the strings of calls that lead from a rig that was just set up to a history, and what a rig is by its history.
use Rattle.std.specs.Prelude.{◌≡◌, ℕ, suc, ◌+◌, ◌<◌, ◌≤◌, Bool, true, false, not, ◌&&◌, List, [], ◌∷◌, ◌++◌, reverse, length, Some, None, Option, ◌==◌, nat_le, slice_index_or}
use Rattle.console_sets.specs.Sets.{all}
use Rattle.std.specs.declared.cmp.Ordering.{Ordering}
use Rattle.orders.specs.Orders.{Lawful as Ordered}
use Rattle.rounds.specs.Items.{at}
use Rattle.rounds.specs.Refusals.{refused}
use Rattle.rounds.specs.Checks.{size_refusal, round_refusal}
use Rattle.rounds.specs.declared.Refusal.{Refusal}
use Rattle.rounds.specs.declared.Refusal.TheVariants.{PressOpen, BookFull, ProposalCount, WrongTicket}
use Rattle.back_end.specs.Meaning.{Meaning}
use Rattle.back_end.specs.Calls.{Made, Started, Rounded}
use Rattle.back_end.specs.Laws.{Agrees, Settles}
use Rattle.front.specs.Consoles.{State, state_of, opened}
use Rattle.front.specs.Runs.{Round, entries}
use Rattle.rig.specs.declared.page.Page.{Page}
use Rattle.rig.specs.declared.page.End.TheVariants.{Settled}
use Rattle.rig.specs.declared.panel.Panel.{Panel}
use Rattle.rig.specs.declared.panel.Book.{Book}
use Rattle.rig.specs.Bound.{max_pages}
use Rattle.rig.specs.Later.{all_decided}
use Rattle.rig.specs.Presses.{Played, Press, rounds_of, opened_with, consoles, running_after, Meant}
use Rattle.rig.specs.Laws.{Lawful}
use Rattle.rig.specs.Steps.{end_of}

pub record Setting : Type 0 where
  pub number : ℕ
  pub n : ℕ
  pub t : ℕ

-- the presses, the latest first, and whether the latest is open
pub record Show : Type 0 where
  pub presses : List Press
  pub open_now : Bool

-- before the first press
abbrev pub first_day : Show
first_day = record { presses = []; open_now = false }

-- what is asked of a rig, in plain values: to press with so many proposals that compare so; to play a round or to close, with a ticket's numbers
pub data Asked : Type 0 where
  press : ℕ → (ℕ → ℕ → Ordering) → Asked
  round : ℕ → ℕ → Round → Asked
  close : ℕ → ℕ → Asked

-- a call and its refusal, None where it was accepted
pub record Answered : Type 0 where
  pub call : Asked
  pub answer : Option Refusal

-- ---- functions of the history

-- who runs
abbrev pub running_now : Setting → List Press → ℕ
running_now s [] = all s.n
running_now s (p ∷ ps) = running_after s.n s.t p

-- the accepted rounds of the latest press
abbrev pub played_now : List Press → List Played
played_now [] = []
played_now (p ∷ ps) = p.played

-- what each console has
abbrev pub consoles_now : Setting → List Press → State
consoles_now s [] = opened 0
consoles_now s (p ∷ ps) = consoles s.n s.t p

-- the rank of each console in the latest press
abbrev pub ranks_now : Setting → List Press → ℕ → ℕ
ranks_now s [] c = 0
ranks_now s (p ∷ ps) c = (opened_with s.n s.t p).rank c

-- the presses that are closed
abbrev pub closed_of : Bool → List Press → List Press
closed_of b [] = []
closed_of true (p ∷ ps) = ps
closed_of false (p ∷ ps) = p ∷ ps

abbrev pub closed_presses : Show → List Press
closed_presses show = closed_of show.open_now show.presses

-- the page of a closed press
pub record Paged (s : Setting) (number : ℕ) (p : Press) (page : Page) : Type 0 where
  pub numbered : page.press ≡ number
  pub ended : page.end ≡ end_of (all_decided s.n (running_after s.n s.t p) (consoles s.n s.t p))
  pub counted : page.rounds ≡ length p.played
  pub has : (c : ℕ) → state_of page.consoles c ≡ consoles s.n s.t p c

-- what a read past the end of the book gives
abbrev pub blank_page : Page
blank_page = record { press = 0; end = Settled; rounds = 0; consoles = [] }

-- the pages of the closed presses, that of press number k at the index k - 1
abbrev pub Pages : Setting → List Press → List Page → Type 0
Pages s [] pages = Unit {0}
Pages s (p ∷ ps) pages = Pages s ps pages × Paged s (suc (length ps)) p (slice_index_or pages (length ps) blank_page)

-- the panel and the book of a rig are those of the history
pub record Stands (s : Setting) (show : Show) (panel : Panel) (book : Book) : Type 0 where
  pub is_number : panel.number ≡ s.number
  pub for_n : panel.n ≡ s.n
  pub for_t : panel.t ≡ s.t
  pub who : panel.running ≡ running_now s show.presses
  pub press : panel.press ≡ length show.presses
  pub is_open : panel.open ≡ show.open_now
  pub counted : panel.rounds ≡ length (played_now show.presses)
  pub has : (c : ℕ) → state_of panel.consoles c ≡ consoles_now s show.presses c
  pub ranks : (c : ℕ) → at panel.ranks c ≡ ranks_now s show.presses c
  pub filled : book.count ≡ length (closed_presses show)
  pub pages : Pages s (closed_presses show) book.pages

-- one of two, by a test
abbrev pub If : Bool → Type 0 → Type 0 → Type 0
If true A B = A
If false A B = B

-- the meaning of the back end is that of the latest press that has had round t + 2, or as made
abbrev pub Backs : Setting → List Press → Meaning → Type 0
Backs s [] m = Made s.n s.t m
Backs s (p ∷ ps) m = If (nat_le (s.t + 2) (length p.played)) (Meant (opened_with s.n s.t p) p.played m) (Backs s ps m)

-- ---- which calls are accepted: of each the first refusal that fits

-- whether a ticket's numbers are those of the open press
abbrev pub shows : Setting → Show → ℕ → ℕ → Bool
shows s show rig number = show.open_now && (rig == s.number && number == length show.presses)

abbrev pub refusal : Setting → Show → Asked → Option Refusal
refusal s show (press count place) =
    refused show.open_now PressOpen
    (refused (nat_le max_pages (length (closed_presses show))) BookFull
    (refused (not (count == s.n)) ProposalCount
    None))
refusal s show (round rig number r) =
    refused (not (shows s show rig number)) WrongTicket
    (round_refusal s.n s.t (running_now s show.presses) (length (played_now show.presses)) r.falls r.rows)
refusal s show (close rig number) = refused (not (shows s show rig number)) WrongTicket None

-- ---- what accepted calls add to the history

abbrev pub pressed : Setting → Show → (ℕ → ℕ → Ordering) → Show
pressed s show place = record { presses = record { ran = running_now s show.presses; place = place; played = [] } ∷ show.presses; open_now = true }

-- the press with one round more
abbrev pub with_round : Press → Played → Press
with_round p r = record { ran = p.ran; place = p.place; played = r ∷ p.played }

abbrev pub closed_now : Show → Show
closed_now show = record { presses = show.presses; open_now = false }

-- what a round asks of the back end: nothing before round t + 2, in which it starts with the entries; then the same round, whose verdicts are the history's
pub record Goes (s : Setting) (p : Press) (r : Played) (m m' : Meaning) : Type 0 where
  pub waits : length p.played < s.t + 1 → m' ≡ m
  pub starts : length p.played ≡ s.t + 1
      → (es : List ℕ) × ((c : ℕ) → c < s.n → at es c ≡ entries (opened_with s.n s.t p) (rounds_of (r ∷ p.played)) c)
      × Started (running_after s.n s.t (with_round p r)) es m m'
  pub goes : s.t + 1 < length p.played → Rounded r.round.falls r.round.rows m m'
  pub silent : length p.played ≤ s.t + 1 → (c : ℕ) → r.verdicts c ≡ 0
  pub tells : s.t + 1 < length p.played → (c : ℕ) → r.verdicts c ≡ at m'.verdicts c

-- ---- the strings of calls, the latest first, that lead from a set up to a history and a meaning of the back end, which keeps its laws with this bound

pub data Led (bound : ℕ) (s : Setting) : List Answered → Show → Meaning → Type 0 where
  set_up : {m : Meaning} → size_refusal s.n s.t ≡ None → Made s.n s.t m → Led bound s [] first_day m
  not_done : {cs : List Answered} {show : Show} {m : Meaning} (c : Asked) (e : Refusal) → refusal s show c ≡ Some e
      → Led bound s cs show m → Led bound s (record { call = c; answer = Some e } ∷ cs) show m
  press_done : {cs : List Answered} {show : Show} {m : Meaning} (count : ℕ) (place : ℕ → ℕ → Ordering) → refusal s show (press count place) ≡ None
      → Ordered place → Led bound s cs show m → Led bound s (record { call = press count place; answer = None } ∷ cs) (pressed s show place) m
  round_done : {cs : List Answered} {ps : List Press} {p : Press} {m m' : Meaning} (rig number : ℕ) (r : Played)
      → refusal s (record { presses = p ∷ ps; open_now = true }) (round rig number r.round) ≡ None
      → Goes s p r m m' → Agrees m' → Settles bound m'
      → Led bound s cs (record { presses = p ∷ ps; open_now = true }) m
      → Led bound s (record { call = round rig number r.round; answer = None } ∷ cs) (record { presses = with_round p r ∷ ps; open_now = true }) m'
  close_done : {cs : List Answered} {show : Show} {m : Meaning} (rig number : ℕ) → refusal s show (close rig number) ≡ None
      → Led bound s cs show m → Led bound s (record { call = close rig number; answer = None } ∷ cs) (closed_now show) m

-- each press is lawful
abbrev pub AllLawful : ℕ → Setting → List Press → Type 0
AllLawful bound s [] = Unit {0}
AllLawful bound s (p ∷ ps) = AllLawful bound s ps × Lawful s.n s.t bound p

-- calls with their answers
abbrev pub with_answers : List Asked → List (Option Refusal) → List Answered
with_answers [] os = []
with_answers (c ∷ cs) [] = []
with_answers (c ∷ cs) (o ∷ os) = record { call = c; answer = o } ∷ with_answers cs os

-- a list is the end of another
pub data Ends : List Press → List Press → Type 0 where
  same : {ps : List Press} → Ends ps ps
  more : {ps qs : List Press} (q : Press) → Ends ps qs → Ends ps (q ∷ qs)

-- Calls that were performed one after another on a rig to which a string of calls had led: the longer string leads to a history whose closed presses end
-- with those closed before. The rig, its pages and the meaning of its back end are those of the history, each answer is the refusal that the history
-- gives, and every press, open or closed, is lawful.
pub record Performed (bound : ℕ) (s : Setting) (cs : List Answered) (show : Show) (asked : List Asked) (panel : Panel) (book : Book) (m : Meaning)
    (answers answers' : List (Option Refusal)) : Type 0 where
  pub given : List (Option Refusal)
  pub full : length given ≡ length asked
  pub written : (k : ℕ) → k < length asked → k < length answers → slice_index_or answers' k None ≡ slice_index_or given k None
  pub beyond : (k : ℕ) → length asked ≤ k → slice_index_or answers' k None ≡ slice_index_or answers k None
  pub after : Show
  pub grows : Ends (closed_presses show) (closed_presses after)
  pub led : Led bound s (reverse (with_answers asked given) ++ cs) after m
  pub stands : Stands s after panel book
  pub backs : Backs s after.presses m
  pub lawful : AllLawful bound s after.presses

-- The calls of a rig: what each is asked in plain values, and what it leaves of the panel, the book and the back end.
use Rattle.std.specs.Prelude.{◌≡◌, ℕ, ◌-◌, ◌||◌, List, length, Some, None, Option, ◌==◌, nat_lt, slice_index_or}
use Rattle.std.specs.declared.cmp.Ordering.{Ordering}
use Rattle.orders.specs.Ranks.{between}
use Rattle.rounds.specs.Refusals.{refused}
use Rattle.rounds.specs.declared.Refusal.{Refusal}
use Rattle.rounds.specs.declared.Refusal.TheVariants.{NoSuch}
use Rattle.back_end.specs.Meaning.{Meaning}
use Rattle.rig.specs.declared.calls.Call.{Call}
use Rattle.rig.specs.declared.calls.Call.TheVariants.{Press, Round, Close}
use Rattle.rig.specs.declared.page.Page.{Page}
use Rattle.rig.specs.declared.panel.Panel.{Panel}
use Rattle.rig.specs.declared.panel.Book.{Book}
use Rattle.rig.specs.declared.rig.Rig.{Rig}
use Rattle.rig.specs.Shows.{Asked, press, round, close, blank_page}
use Rattle.rig.specs.Steps.{press_refusal, Pressed, turn_refusal, told, Advanced, Handed, close_refusal, Closed}

-- a call in plain values
abbrev pub asked : {P : Type 0} → (P → P → Ordering) → Call P → Asked
asked places (Press proposals) = press (length proposals.now) (between places proposals.now)
asked places (Round rig number falls rows) = round rig number (record { falls = falls; rows = rows.now })
asked places (Close rig number) = close rig number

-- ---- what an accepted call leaves

pub record AfterPress {B : Type 0} (place : ℕ → ℕ → Ordering) (panel : Panel) (book : Book) (back : B) (panel' : Panel) (book' : Book) (back' : B) : Type 0 where
  pub pressed : Pressed panel book place panel'
  pub same_book : book' ≡ book
  pub same_back : back' ≡ back

pub record AfterRound (falls : ℕ) (rows : List ℕ) (panel : Panel) (book : Book) (m : Meaning) (panel' : Panel) (book' : Book) (m' : Meaning) : Type 0 where
  pub advanced : Advanced panel falls rows (told panel m') panel'
  pub same_book : book' ≡ book
  pub handed : Handed panel falls rows m m'

pub record AfterClose {B : Type 0} (panel : Panel) (book : Book) (back : B) (panel' : Panel) (book' : Book) (back' : B) : Type 0 where
  pub closed : Closed panel book panel' book'
  pub same_back : back' ≡ back

-- ---- the same of a rig before and after

abbrev pub PressLeaves : {B : Type 0} → (ℕ → ℕ → Ordering) → Rig B → Rig B → Type 0
PressLeaves place rig rig' = AfterPress place rig.panel rig.book rig.back rig'.panel rig'.book rig'.back

abbrev pub RoundLeaves : {B : Type 0} → (B → Meaning) → ℕ → List ℕ → Rig B → Rig B → Type 0
RoundLeaves meaning falls rows rig rig' =
    AfterRound falls rows rig.panel rig.book (meaning rig.back) rig'.panel rig'.book (meaning rig'.back)

abbrev pub CloseLeaves : {B : Type 0} → Rig B → Rig B → Type 0
CloseLeaves rig rig' = AfterClose rig.panel rig.book rig.back rig'.panel rig'.book rig'.back

-- ---- a call of any kind

-- why it is refused
abbrev pub call_refusal : Asked → Panel → Book → Meaning → Option Refusal
call_refusal (press count place) panel book m = press_refusal panel book count
call_refusal (round rig number r) panel book m = turn_refusal panel m rig number r.falls r.rows
call_refusal (close rig number) panel book m = close_refusal panel rig number

-- what it leaves when it is accepted
abbrev pub AfterCall : Asked → Panel → Book → Meaning → Panel → Book → Meaning → Type 0
AfterCall (press count place) = AfterPress place
AfterCall (round rig number r) = AfterRound r.falls r.rows
AfterCall (close rig number) = AfterClose

-- what it leaves by its answer: refused, all is as it was
abbrev pub Left : Option Refusal → Asked → Panel → Book → Meaning → Panel → Book → Meaning → Type 0
Left None call panel book m panel' book' m' = AfterCall call panel book m panel' book' m'
Left (Some e) call panel book m panel' book' m' = (panel' ≡ panel) × (book' ≡ book) × (m' ≡ m)

-- a call that was made: its answer is its refusal, and it left what that says
pub record Done (call : Asked) (answer : Option Refusal) (panel : Panel) (book : Book) (m : Meaning) (panel' : Panel) (book' : Book) (m' : Meaning) : Type 0 where
  pub answered : answer ≡ call_refusal call panel book m
  pub left : Left answer call panel book m panel' book' m'

abbrev pub DoneBy : {B : Type 0} → (B → Meaning) → Asked → Option Refusal → Rig B → Rig B → Type 0
DoneBy meaning call answer rig rig' =
    Done call answer rig.panel rig.book (meaning rig.back) rig'.panel rig'.book (meaning rig'.back)

-- ---- pages

-- why there is no page of this number
abbrev pub page_refusal : Book → ℕ → Option Refusal
page_refusal book number = refused (number == 0 || nat_lt book.count number) NoSuch None

-- the page of this number
abbrev pub page_at : Book → ℕ → Page
page_at book number = slice_index_or book.pages (number - 1) blank_page

-- What each call of a rig answers and leaves, from the rig before it, whatever that is: its panel, its book and what its back end means.
use Rattle.std.specs.Prelude.{◌≡◌, ℕ, ◌+◌, ◌<◌, Bool, true, false, cond, not, ◌&&◌, List, map, None, Option, ◌==◌, nat_le, nat_lt, slice_set}
use Rattle.std.specs.List.{range_with_len}
use Rattle.console_sets.specs.Sets.{all}
use Rattle.std.specs.declared.cmp.Ordering.{Ordering}
use Rattle.orders.specs.Ranks.{rank}
use Rattle.rounds.specs.Items.{at}
use Rattle.rounds.specs.Rounds.{completing}
use Rattle.rounds.specs.Refusals.{refused, either}
use Rattle.rounds.specs.Checks.{start_refusal, round_refusal}
use Rattle.rounds.specs.declared.Refusal.{Refusal}
use Rattle.rounds.specs.declared.Refusal.TheVariants.{PressOpen, BookFull, ProposalCount, WrongTicket}
use Rattle.back_end.specs.Meaning.{Meaning}
use Rattle.back_end.specs.Calls.{Started, Rounded}
use Rattle.front.specs.Consoles.{State, state_of, opened}
use Rattle.front.specs.Deciding.{entries_after}
use Rattle.front.specs.Runs.{Opening}
use Rattle.front.specs.Runs as front
use Rattle.rig.specs.declared.page.End.{End}
use Rattle.rig.specs.declared.page.End.TheVariants.{Settled, Dropped}
use Rattle.rig.specs.declared.page.Page.{Page}
use Rattle.rig.specs.declared.panel.Panel.{Panel}
use Rattle.rig.specs.declared.panel.Book.{Book}
use Rattle.rig.specs.Bound.{max_pages}
use Rattle.rig.specs.Later.{after_later, all_decided}

-- ---- set up

-- a rig that was just set up: every console runs, and all else is 0
pub record SetUp (number n t : ℕ) (panel : Panel) (book : Book) : Type 0 where
  pub is_number : panel.number ≡ number
  pub for_n : panel.n ≡ n
  pub for_t : panel.t ≡ t
  pub who : panel.running ≡ all n
  pub press : panel.press ≡ 0
  pub closed : panel.open ≡ false
  pub counted : panel.rounds ≡ 0
  pub ranks : (c : ℕ) → at panel.ranks c ≡ 0
  pub consoles : (c : ℕ) → state_of panel.consoles c ≡ opened 0 c
  pub empty : book.count ≡ 0

-- ---- press

abbrev pub press_refusal : Panel → Book → ℕ → Option Refusal
press_refusal panel book count =
    refused panel.open PressOpen
    (refused (nat_le max_pages book.count) BookFull
    (refused (not (count == panel.n)) ProposalCount
    None))

-- the panel after a press whose proposals compare as `place` says
pub record Pressed (panel : Panel) (book : Book) (place : ℕ → ℕ → Ordering) (panel' : Panel) : Type 0 where
  pub is_number : panel'.number ≡ panel.number
  pub for_n : panel'.n ≡ panel.n
  pub for_t : panel'.t ≡ panel.t
  pub who : panel'.running ≡ panel.running
  pub press : panel'.press ≡ book.count + 1
  pub is_open : panel'.open ≡ true
  pub counted : panel'.rounds ≡ 0
  pub ranks : (c : ℕ) → at panel'.ranks c ≡ rank panel.n panel.running place c
  pub consoles : (c : ℕ) → state_of panel'.consoles c ≡ opened panel.running c

-- ---- round

-- whether a ticket's numbers are those of the open press
abbrev pub fits : Panel → ℕ → ℕ → Bool
fits panel rig press = panel.open && (rig == panel.number && press == panel.press)

-- what the front knows of the panel's press
abbrev pub opening_of : Panel → Opening
opening_of panel = record { n = panel.n; t = panel.t; ran = panel.running; rank = at panel.ranks }

-- what each console has after round k
abbrev pub after_round : Panel → ℕ → ℕ → List ℕ → (ℕ → ℕ) → State
after_round panel k completing rows verdicts =
    cond (nat_le k (panel.t + 2))
    (front.after (opening_of panel) k completing rows (state_of panel.consoles))
    (after_later panel.n k completing rows verdicts (state_of panel.consoles))

-- the entries of the n consoles in round t + 2
abbrev pub entry_list : Panel → ℕ → List ℕ → List ℕ
entry_list panel falls rows =
    map (entries_after panel.n panel.t (completing panel.running falls) rows (state_of panel.consoles)) (range_with_len 0 panel.n)

-- why the back end refuses what the round asks of it: nothing before round t + 2, in which it starts, and then the same round
abbrev pub back_refusal : Panel → ℕ → List ℕ → Meaning → Option Refusal
back_refusal panel falls rows m =
    cond (nat_lt panel.rounds (panel.t + 1)) None
    (cond (panel.rounds == panel.t + 1)
    (start_refusal m.n m.t (completing panel.running falls) (entry_list panel falls rows))
    (round_refusal m.n m.t m.running m.rounds falls rows))

abbrev pub turn_refusal : Panel → Meaning → ℕ → ℕ → ℕ → List ℕ → Option Refusal
turn_refusal panel m rig press falls rows =
    refused (not (fits panel rig press)) WrongTicket
    (either (round_refusal panel.n panel.t panel.running panel.rounds falls rows) (back_refusal panel falls rows m))

-- the verdicts that the back end then answers: 0 for all up to round t + 2
abbrev pub told : Panel → Meaning → ℕ → ℕ
told panel m c = cond (nat_lt (panel.t + 1) panel.rounds) (cond (nat_lt c m.n) (at m.verdicts c) 0) 0

-- the panel after a round
pub record Advanced (panel : Panel) (falls : ℕ) (rows : List ℕ) (verdicts : ℕ → ℕ) (panel' : Panel) : Type 0 where
  pub is_number : panel'.number ≡ panel.number
  pub for_n : panel'.n ≡ panel.n
  pub for_t : panel'.t ≡ panel.t
  pub who : panel'.running ≡ completing panel.running falls
  pub press : panel'.press ≡ panel.press
  pub is_open : panel'.open ≡ panel.open
  pub counted : panel'.rounds ≡ panel.rounds + 1
  pub ranks : panel'.ranks ≡ panel.ranks
  pub consoles : (c : ℕ) → state_of panel'.consoles c ≡ after_round panel (panel.rounds + 1) (completing panel.running falls) rows verdicts c

-- the back end after a round: as it was before round t + 2, started in it, and then the same round
pub record Handed (panel : Panel) (falls : ℕ) (rows : List ℕ) (m m' : Meaning) : Type 0 where
  pub waits : panel.rounds < panel.t + 1 → m' ≡ m
  pub starts : panel.rounds ≡ panel.t + 1 → Started (completing panel.running falls) (entry_list panel falls rows) m m'
  pub goes : panel.t + 1 < panel.rounds → Rounded falls rows m m'

-- ---- close

abbrev pub close_refusal : Panel → ℕ → ℕ → Option Refusal
close_refusal panel rig press = refused (not (fits panel rig press)) WrongTicket None

abbrev pub end_of : Bool → End
end_of true = Settled
end_of false = Dropped

-- the end of the panel's press: settled if every running console has a decision
abbrev pub end_now : Panel → End
end_now panel = end_of (all_decided panel.n panel.running (state_of panel.consoles))

-- the page of the panel's press
abbrev pub page_now : Panel → Page
page_now panel = record { press = panel.press; end = end_now panel; rounds = panel.rounds; consoles = panel.consoles }

-- the panel and the book after a close: a page more, no press open, and nothing else
pub record Closed (panel : Panel) (book : Book) (panel' : Panel) (book' : Book) : Type 0 where
  pub is_number : panel'.number ≡ panel.number
  pub for_n : panel'.n ≡ panel.n
  pub for_t : panel'.t ≡ panel.t
  pub who : panel'.running ≡ panel.running
  pub press : panel'.press ≡ panel.press
  pub closed : panel'.open ≡ false
  pub counted : panel'.rounds ≡ panel.rounds
  pub ranks : panel'.ranks ≡ panel.ranks
  pub consoles : panel'.consoles ≡ panel.consoles
  -- the page comes last in the book, if there is room for it, as there always is
  pub count : book.count < max_pages → book'.count ≡ book.count + 1
  pub pages : book.count < max_pages → book'.pages ≡ slice_set book.pages book.count (page_now panel)
  pub full : max_pages ≡ book.count → book' ≡ book

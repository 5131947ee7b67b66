-- What each refusal shows, its number, layer and place, and what a call answers by its refusal.
use Rattle.std.specs.Prelude.{◌≡◌, ℕ, Bool, cond, List, Some, None, Ok, Err, Option, Result, codes, ◌==◌}
use Rattle.rounds.specs.declared.refusals.Layer.{Layer}
use Rattle.rounds.specs.declared.refusals.Layer.TheVariants.{File, Rig, Back}
use Rattle.rounds.specs.declared.refusals.Refusal.{Refusal}
use Rattle.rounds.specs.declared.refusals.Refusal.TheVariants.{Consoles, Tolerance, NotServed, PressOpen, BookFull, ProposalCount, WrongTicket, RoundLimit, ItemCount, OutsideMember, TooFewRunning, BadItem, ShortRow, NoSuch}

-- ---- what a layer and a refusal show

-- the word of a layer on a sheet
abbrev pub layer_word : Layer → List ℕ
layer_word File = codes "file"
layer_word Rig = codes "rig"
layer_word Back = codes "back"

abbrev pub number_of : Refusal → ℕ
number_of Consoles = 1
number_of Tolerance = 2
number_of NotServed = 3
number_of PressOpen = 4
number_of BookFull = 5
number_of ProposalCount = 6
number_of WrongTicket = 7
number_of RoundLimit = 8
number_of ItemCount = 9
number_of OutsideMember = 10
number_of TooFewRunning = 11
number_of (BadItem console) = 12
number_of (ShortRow console) = 13
number_of NoSuch = 14

-- the layer depends on the number alone: 3 is the back end's
abbrev pub layer_of : Refusal → Layer
layer_of refusal = cond (number_of refusal == 3) Back Rig

-- the console that it names, 0 for none
abbrev pub place_of : Refusal → ℕ
place_of Consoles = 0
place_of Tolerance = 0
place_of NotServed = 0
place_of PressOpen = 0
place_of BookFull = 0
place_of ProposalCount = 0
place_of WrongTicket = 0
place_of RoundLimit = 0
place_of ItemCount = 0
place_of OutsideMember = 0
place_of TooFewRunning = 0
place_of (BadItem console) = console
place_of (ShortRow console) = console
place_of NoSuch = 0

-- ---- the first condition that holds

-- e if the test passes, and else what the later conditions give
abbrev pub refused : Bool → Refusal → Option Refusal → Option Refusal
refused test e rest = cond test (Some e) rest

-- e of a console's number unless that is 0, and else what the later conditions give
abbrev pub refused_at : ℕ → (ℕ → Refusal) → Option Refusal → Option Refusal
refused_at console e rest = cond (console == 0) rest (Some (e console))

-- the refusal of the first check, or else of the second
abbrev pub either : Option Refusal → Option Refusal → Option Refusal
either None rest = rest
either (Some e) rest = Some e

-- ---- what a call answers

-- a call that gives no value
abbrev pub answer : Option Refusal → Result (Unit {0}) Refusal
answer None = Ok tt
answer (Some e) = Err e

-- a call that gives a value, which then has the property P
abbrev pub Answers : {X : Type 0} → Result X Refusal → Option Refusal → (X → Type 0) → Type 0
Answers (Ok x) refusal P = (refusal ≡ None) × P x
Answers (Err e) refusal P = refusal ≡ Some e

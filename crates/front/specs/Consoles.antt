-- What a console has in a press: an estimate; a halt set, that is, the consoles whose estimates it leaves aside; a decision, with its round and its cause.
-- And what all have when a press opens.
-- Index c stands for the console c + 1. An author is a console's number, 0 for none.
use Rattle.std.specs.Prelude.{ℕ, suc, if◌then◌else◌, List, codes, slice_index_or}
use Rattle.console_sets.specs.Sets.{member}
use Rattle.front.specs.declared.consoles.Cause.{Cause}
use Rattle.front.specs.declared.consoles.Cause.TheVariants.{None, Front, Relay, Back}
use Rattle.front.specs.declared.consoles.Console.{Console}

-- the word for a cause
abbrev pub word_of : Cause → List ℕ
word_of None = codes "none"
word_of Front = codes "front"
word_of Relay = codes "relay"
word_of Back = codes "back"

-- what each console has
abbrev pub State : Type 0
State = ℕ → Console

-- a console that has nothing yet but this estimate
abbrev pub fresh : ℕ → Console
fresh estimate = record { estimate = estimate; halt = 0; decision = 0; round = 0; cause = None }

-- the state that a list of consoles holds
abbrev pub state_of : List Console → State
state_of consoles c = slice_index_or consoles c (fresh 0)

-- the state that a press opens with: a running console's estimate is its own number
abbrev pub opened : ℕ → State
opened running c = fresh (if member running c then suc c else 0)

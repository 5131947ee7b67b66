-- Round t + 2: who decides what, and with which entry each console goes to the back end. The state s is that at the round's start, and `row` is the set of
-- the consoles that the console i heard, halted and falling ones too.
use Rattle.std.specs.Prelude.{ℕ, suc, ◌+◌, ◌-◌, Bool, if◌then◌else◌, not, ◌&&◌, List, is_some, Some, None, Option, ◌==◌, count_ones, nat_lt}
use Rattle.console_sets.specs.Sets.{member, lowest}
use Rattle.rounds.specs.Items.{at}
use Rattle.front.specs.declared.consoles.Cause.TheVariants.{Front}
use Rattle.front.specs.declared.consoles.Console.{Console}
use Rattle.front.specs.declared.deciding.Outcome.{Outcome}
use Rattle.front.specs.declared.deciding.Outcome.TheVariants.{Decision, Entry}
use Rattle.front.specs.Consoles.{State}
use Rattle.front.specs.Searches.{some}

-- the new estimate of a console: its estimate, or missing if its halt set has more than t members
abbrev pub new_estimate : ℕ → Console → Option ℕ
new_estimate t console = if nat_lt t (count_ones console.halt) then None else Some console.estimate

-- whether it is present
abbrev pub present : ℕ → Console → Bool
present t console = is_some (new_estimate t console)

-- whether j is heard and its new estimate is missing
abbrev pub hears_missing : ℕ → ℕ → State → ℕ → Bool
hears_missing t row s j = member row j && not (present t (s j))

-- whether j is heard and its new estimate is present
abbrev pub hears_present : ℕ → ℕ → State → ℕ → Bool
hears_present t row s j = member row j && present t (s j)

-- the estimate of the console of this number, 0 for none
abbrev pub estimate_of : State → ℕ → ℕ
estimate_of s number = if number == 0 then 0 else (s (number - 1)).estimate

-- what the round gives to i. All heard are present: it decides on that of the lowest heard. Some are missing: it enters with that of the lowest
-- present one, or with its own number if none is present.
unfoldable pub outcome_of : ℕ → ℕ → ℕ → State → ℕ → Outcome
outcome_of n t row s i =
    if some (hears_missing t row s) n
    then Entry (if some (hears_present t row s) n then estimate_of s (lowest (hears_present t row s) n) else suc i)
    else Decision (estimate_of s (lowest (member row) n))

-- a console after round t + 2 with what that gave it
abbrev pub deciding : ℕ → Console → Outcome → Console
deciding t console (Decision author) = record {
  estimate = console.estimate;
  halt = console.halt;
  decision = author;
  round = t + 2;
  cause = Front;
}
deciding t console (Entry author) = console

-- the entry for the back end: of one who decides its decision
abbrev pub entry : Outcome → ℕ
entry (Decision author) = author
entry (Entry author) = author

-- the state after the round: who does not complete it keeps what it has
unfoldable pub after_deciding : ℕ → ℕ → ℕ → List ℕ → State → State
after_deciding n t completing rows s c = if member completing c then deciding t (s c) (outcome_of n t (at rows c) s c) else s c

-- the entries after the round: 0 for who does not complete it
unfoldable pub entries_after : ℕ → ℕ → ℕ → List ℕ → State → ℕ → ℕ
entries_after n t completing rows s c = if member completing c then entry (outcome_of n t (at rows c) s c) else 0

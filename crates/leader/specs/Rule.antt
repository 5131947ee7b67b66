-- The rule of the back end Leader: which pairs it serves, what a row shows, and what a start and a round leave of each console.
-- Index c stands for the console c + 1. A console's number is one more than its index, and 0 stands for none.
use Rattle.std.specs.Prelude.{◌≡◌, ℕ, suc, ◌-◌, ◌*◌, Bool, true, false, if◌then◌else◌, not, ◌&&◌, List, ◌==◌, nat_lt, slice_index_or}
use Rattle.console_sets.specs.Bound.{max_consoles}
use Rattle.console_sets.specs.Sets.{count, lowest, member}
use Rattle.rounds.specs.Items.{at}
use Rattle.back_end.specs.Largest.{largest}
use Rattle.leader.specs.declared.console.Kind.{Kind}
use Rattle.leader.specs.declared.console.Kind.TheVariants.{Prepare, Commit}
use Rattle.leader.specs.declared.console.Console.{Console}

abbrev pub leader_serves : ℕ → ℕ → Bool
leader_serves n t = nat_lt (2 * t) n

-- ---- consoles

abbrev pub is_commit : Kind → Bool
is_commit Prepare = false
is_commit Commit = true

-- a console as a start leaves it, by its entry
abbrev pub opening : ℕ → Console
opening entry = record { estimate = entry; stamp = 0; kind = Prepare; leader = 1; verdict = 0 }

-- the console at each index
abbrev pub State : Type 0
State = ℕ → Console

-- as a list has them
abbrev pub who : List Console → State
who consoles c = slice_index_or consoles c (opening 0)

-- ---- what a row shows of the consoles s, which are those at the round's start

-- more than n/2
abbrev pub majority : ℕ → ℕ → Bool
majority n number = nat_lt n (2 * number)

-- rule 1: the lowest console in the row that has a verdict
abbrev pub informed : ℕ → ℕ → State → ℕ
informed n row s = lowest (λ d. member row d && not ((s d).verdict == 0)) n

-- rule 2: how many consoles in the row have kind commit
abbrev pub committed : ℕ → ℕ → State → ℕ
committed n row s = count (λ d. member row d && is_commit (s d).kind) n

-- the highest stamp in the row, and whether the console d is there and has it
abbrev pub peak : ℕ → ℕ → State → ℕ
peak n row s = largest (λ d. (if member row d then (s d).stamp else 0)) n

abbrev pub tops : ℕ → ℕ → State → ℕ → Bool
tops n row s d = member row d && (s d).stamp == peak n row s

-- rule 3: how many consoles in the row name each console
abbrev pub named : ℕ → ℕ → State → ℕ → ℕ
named n row s d = count (λ e. member row e && (s e).leader == suc d) n

-- the leader: more than n/2 name it, it is in the row, and none there has a higher stamp
abbrev pub led : ℕ → ℕ → State → ℕ
led n row s = lowest (λ d. tops n row s d && majority n (named n row s d)) n

-- rule 4: the lowest console with the highest stamp in the row
abbrev pub foremost : ℕ → ℕ → State → ℕ
foremost n row s = lowest (tops n row s) n

-- ---- what a console becomes

-- rules 1 and 2: it has a verdict, and is else as it was
abbrev pub decides : Console → ℕ → Console
decides own v = record { estimate = own.estimate; stamp = own.stamp; kind = own.kind; leader = own.leader; verdict = v }

-- rule 3, in round k
abbrev pub commits : ℕ → ℕ → Console → Console
commits k next from = record { estimate = from.estimate; stamp = k; kind = Commit; leader = next; verdict = 0 }

-- rule 4
abbrev pub prepares : ℕ → Console → Console
prepares next from = record { estimate = from.estimate; stamp = from.stamp; kind = Prepare; leader = next; verdict = 0 }

-- the leader that a console with this row names after rule 3 or 4: the lowest console in the row
unfoldable pub next_leader : ℕ → ℕ
next_leader row = lowest (member row) max_consoles

-- ---- the first rule that fits

-- what f says of the console of this number, or what the later rules say if there is none
abbrev pub by : ℕ → (ℕ → Console) → Console → Console
by number f rest = (if number == 0 then rest else f (number - 1))

-- rules 3 and 4 in round k
abbrev pub turned : ℕ → ℕ → ℕ → State → Console
turned n k row s =
    by (led n row s) (λ d. commits k (next_leader row) (s d))
    (prepares (next_leader row) (s (foremost n row s - 1)))

-- rules 1 and 2 before them, for a console `own` without a verdict
abbrev pub ruled : ℕ → ℕ → ℕ → State → Console → Console
ruled n k row s own =
    by (informed n row s) (λ d. decides own (s d).verdict)
    (if is_commit own.kind && majority n (committed n row s) then decides own own.estimate else turned n k row s)

-- the console c after round k, where `complete` is the set of those that complete it
abbrev pub console_after : ℕ → ℕ → ℕ → List ℕ → State → ℕ → Console
console_after n k complete rows s c =
    (if member complete c && (s c).verdict == 0 then ruled n k (at rows c) s (s c) else s c)

-- ---- the calls

-- a start with these entries, one for each console, 0 for one that does not run
abbrev pub Opened : List ℕ → List Console → Type 0
Opened entries consoles = (c : ℕ) → who consoles c ≡ opening (at entries c)

-- round k
abbrev pub LeaderRound : ℕ → ℕ → ℕ → List ℕ → List Console → List Console → Type 0
LeaderRound n k complete rows before after = (c : ℕ) → who after c ≡ console_after n k complete rows (who before) c

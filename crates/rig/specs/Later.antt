-- Rounds after t + 2: what relay and the back end's verdict give. The state s is that at the round's start, and `row` is the set of the consoles that
-- the console i heard.
use Rattle.std.specs.Prelude.{ℕ, ◌-◌, Bool, cond, not, ◌&&◌, List, ◌==◌}
use Rattle.console_sets.specs.Sets.{member, lowest}
use Rattle.rounds.specs.Items.{at}
use Rattle.front.specs.declared.consoles.Console.{Console}
use Rattle.front.specs.declared.consoles.Cause.{Cause}
use Rattle.front.specs.declared.consoles.Cause.TheVariants.{Relay, Back}
use Rattle.front.specs.Consoles.{State}
use Rattle.front.specs.Searches.{some}

-- a console with a decision in round k
abbrev pub decided : Console → ℕ → ℕ → Cause → Console
decided console author k cause = record { estimate = console.estimate; halt = console.halt; decision = author; round = k; cause = cause }

-- whether j is heard and had a decision at the round's start
abbrev pub tells : ℕ → State → ℕ → Bool
tells row s j = member row j && not ((s j).decision == 0)

-- what i has after round k: its decision if it had one; else that of the lowest console in its row that had one; else its verdict if that is not 0
abbrev pub later : ℕ → ℕ → ℕ → ℕ → State → ℕ → Console
later n k row verdict s i =
    cond (not ((s i).decision == 0)) (s i)
    (cond (some (tells row s) n) (decided (s i) (s (lowest (tells row s) n - 1)).decision k Relay)
    (cond (not (verdict == 0)) (decided (s i) verdict k Back) (s i)))

-- the state after the round: who does not complete it keeps what it has
unfoldable pub after_later : ℕ → ℕ → ℕ → List ℕ → (ℕ → ℕ) → State → State
after_later n k completing rows verdicts s c = cond (member completing c) (later n k (at rows c) (verdicts c) s c) (s c)

-- whether the console c runs and has no decision
abbrev pub lacks : ℕ → State → ℕ → Bool
lacks running s c = member running c && (s c).decision == 0

-- whether every running console has a decision
abbrev pub all_decided : ℕ → ℕ → State → Bool
all_decided n running s = not (some (lacks running s) n)

-- Rounds 1 to t + 1: the halt set and the estimate that a round gives. The state s is that at the round's start, and `row` is the set of the consoles
-- that the console i heard. `rank` gives the rank of each author by index.
use Rattle.std.specs.Prelude.{ℕ, suc, Bool, if◌then◌else◌, not, ◌&&◌, ◌||◌, List, ◌==◌}
use Rattle.console_sets.specs.Sets.{member, set_of}
use Rattle.rounds.specs.Items.{at}
use Rattle.front.specs.declared.consoles.Console.{Console}
use Rattle.front.specs.Consoles.{State}
use Rattle.front.specs.Searches.{some, foremost}

-- whether the new halt set of i holds j: the old one did, or i did not hear j, or i heard j, whose halt set held i
abbrev pub halts : ℕ → State → ℕ → ℕ → Bool
halts row s i j = member (s i).halt j || not (member row j) || (member row j && member (s j).halt i)

-- the new halt set of i: exactly those of the consoles 1 to n
abbrev pub halt_set : ℕ → ℕ → State → ℕ → ℕ
halt_set n row s i = set_of (halts row s i) n

-- whether j is in the row and outside the halt set, and its estimate is the author of index a
abbrev pub offers : ℕ → ℕ → State → ℕ → ℕ → Bool
offers row halt s a j = member row j && not (member halt j) && (s j).estimate == suc a

-- the authors that are the estimate of a console in the row and outside the halt set
abbrev pub candidates : ℕ → ℕ → ℕ → State → ℕ
candidates n row halt s = set_of (λ a. some (offers row halt s a) n) n

-- what i has after a round that it completes: the new halt set, and of the candidates outside that one the author that precedes all others
abbrev pub halting : ℕ → (ℕ → ℕ) → ℕ → State → ℕ → Console
halting n rank row s i = record {
  estimate = foremost n rank (candidates n row (halt_set n row s i) s);
  halt = halt_set n row s i;
  decision = (s i).decision;
  round = (s i).round;
  cause = (s i).cause;
}

-- the state after the round: who does not complete it keeps what it has
unfoldable pub after_halting : ℕ → (ℕ → ℕ) → ℕ → List ℕ → State → State
after_halting n rank completing rows s c = if member completing c then halting n rank (at rows c) s c else s c

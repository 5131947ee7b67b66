-- The terms of a round, which has a fall set and one row for each console, and the same for a start with its entries.
-- `running` is the running set at the start of the call. Index c stands for the console c + 1.
use Rattle.std.specs.Prelude.{◌≡◌, ℕ, ◌-◌, Bool, true, cond, not, ◌&&◌, ◌||◌, List, ◌==◌, count_ones, nat_le, nat_lt}
use Rattle.console_sets.specs.Sets.{member, lowest, inside, without}
use Rattle.rounds.specs.Items.{at}

-- whether a set is a quorum: it has at least n - t members
abbrev pub quorum : ℕ → ℕ → ℕ → Bool
quorum n t set = nat_le (n - t) (count_ones set)

-- the set of the consoles that complete the round: they run at its start and do not fall in it
abbrev pub completing : ℕ → ℕ → ℕ
completing running falls = without running falls

-- whether the row of the console c is one that it cannot have: completing, it heard itself and only consoles that ran;
-- falling or fallen, it heard nobody
abbrev pub bad_row : ℕ → ℕ → List ℕ → ℕ → Bool
bad_row running falls rows c =
    cond (member (completing running falls) c) (not (member (at rows c) c && inside (at rows c) running)) (not (at rows c == 0))

-- whether the console c completes the round with a row that is no quorum
abbrev pub short_row : ℕ → ℕ → ℕ → ℕ → List ℕ → ℕ → Bool
short_row n t running falls rows c = member (completing running falls) c && not (quorum n t (at rows c))

-- whether the console c runs and its entry is not a console's number, 1 to n
abbrev pub bad_entry : ℕ → ℕ → List ℕ → ℕ → Bool
bad_entry n running entries c = member running c && (at entries c == 0 || nat_lt n (at entries c))

-- whether the console c runs and its row is not the running set
abbrev pub uneven_row : ℕ → List ℕ → ℕ → Bool
uneven_row running rows c = member running c && not (at rows c == running)

-- whether the round is steady: nobody falls, and the row of each running console is the running set
abbrev pub steady_round : ℕ → ℕ → ℕ → List ℕ → Bool
steady_round n running falls rows = falls == 0 && lowest (uneven_row running rows) n == 0

-- that the round is truthful: each completing console heard every console that ran at the round's start and does not fall in it
abbrev pub Truthful : ℕ → ℕ → List ℕ → Type 0
Truthful running falls rows =
    (c d : ℕ) → member (completing running falls) c ≡ true → member (completing running falls) d ≡ true → member (at rows c) d ≡ true

-- Why a call is refused, `None` where it is accepted: of each call the first condition that holds, in the order of the numbers.
use Rattle.std.specs.Prelude.{ℕ, ◌*◌, Bool, not, ◌||◌, List, length, None, Option, ◌==◌, nat_le, nat_lt}
use Rattle.console_sets.specs.Bound.{max_consoles}
use Rattle.console_sets.specs.Sets.{lowest, inside, all}
use Rattle.rounds.specs.Bound.{min_consoles, max_rounds}
use Rattle.rounds.specs.Refusals.{refused, refused_at, either}
use Rattle.rounds.specs.Rounds.{quorum, completing, bad_row, short_row, bad_entry}
use Rattle.rounds.specs.declared.refusals.Refusal.{Refusal}
use Rattle.rounds.specs.declared.refusals.Refusal.TheVariants.{Consoles, Tolerance, NotServed, RoundLimit, ItemCount, OutsideMember, TooFewRunning, BadItem, ShortRow, NoSuch}

-- of n consoles of which t may fall
abbrev pub size_refusal : ℕ → ℕ → Option Refusal
size_refusal n t =
    refused (nat_lt n min_consoles || nat_lt max_consoles n) Consoles
    (refused (t == 0 || nat_le n (2 * t)) Tolerance
    None)

-- of making a back end, by whether it serves n and t
abbrev pub make_refusal : Bool → ℕ → ℕ → Option Refusal
make_refusal serves n t = either (size_refusal n t) (refused (not serves) NotServed None)

-- of a start with a running set and entries
abbrev pub start_refusal : ℕ → ℕ → ℕ → List ℕ → Option Refusal
start_refusal n t running entries =
    refused (not (length entries == n)) ItemCount
    (refused (not (inside running (all n))) OutsideMember
    (refused (not (quorum n t running)) TooFewRunning
    (refused_at (lowest (bad_entry n running entries) n) BadItem
    None)))

-- of a round with a fall set and rows, after `rounds` others
abbrev pub round_refusal : ℕ → ℕ → ℕ → ℕ → ℕ → List ℕ → Option Refusal
round_refusal n t running rounds falls rows =
    refused (nat_le max_rounds rounds) RoundLimit
    (refused (not (length rows == n)) ItemCount
    (refused (not (inside falls running)) OutsideMember
    (refused (not (quorum n t (completing running falls))) TooFewRunning
    (refused_at (lowest (bad_row running falls rows) n) BadItem
    (refused_at (lowest (short_row n t running falls rows) n) ShortRow
    None)))))

-- of a question about a console
abbrev pub console_refusal : ℕ → ℕ → Option Refusal
console_refusal n console = refused (console == 0 || nat_lt n console) NoSuch None

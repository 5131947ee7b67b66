-- How many consoles have an author, and which: the author is an estimate or a named leader, a console's number.
-- Index a stands for the author a + 1, as index c stands for the console c + 1.
use Rattle.std.specs.Prelude.{◌≡◌, ℕ, suc, ◌<◌, min, ◌&&◌, List, ◌==◌, bit_and, count_ones, nat_eq}
use Rattle.console_sets.specs.Bound.{max_consoles}
use Rattle.console_sets.specs.Sets.{count, member, set_of}
use Rattle.rounds.specs.Items.{at}

-- how many of the n consoles have the author v
abbrev pub backing : ℕ → List ℕ → ℕ → ℕ
backing n authors v = count (λ d. nat_eq (at authors d) v) n

-- how many of them that are in the row
abbrev pub votes : ℕ → ℕ → List ℕ → ℕ → ℕ
votes n row authors v = count (λ d. member row d && at authors d == v) n

-- how many consoles of the row are in the set at the index a
abbrev pub common : ℕ → List ℕ → ℕ → ℕ
common row sets a = count_ones (bit_and row (at sets a))

-- the sets hold, for each author, the consoles up to n that have it
abbrev pub Backers : ℕ → List ℕ → List ℕ → Type 0
Backers n authors sets =
    (a : ℕ) → a < max_consoles → at sets a ≡ set_of (λ d. nat_eq (at authors d) (suc a)) (min n max_consoles)

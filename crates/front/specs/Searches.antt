-- Whether some console passes a test, and which author of a set precedes all others: the front's rules are stated by these.
use Rattle.std.specs.Prelude.{ℕ, Bool, not, ◌&&◌, ◌==◌, nat_lt}
use Rattle.console_sets.specs.Sets.{member, lowest}

-- whether some index below n passes the test p
abbrev pub some : (ℕ → Bool) → ℕ → Bool
some p n = not (lowest p n == 0)

-- whether the author b is in the set and precedes the author a: of two authors the one with the lower rank precedes
abbrev pub ahead : (ℕ → ℕ) → ℕ → ℕ → ℕ → Bool
ahead rank authors a b = member authors b && nat_lt (rank b) (rank a)

-- whether the author a is in the set and none of the set precedes it
abbrev pub first : ℕ → (ℕ → ℕ) → ℕ → ℕ → Bool
first n rank authors a = member authors a && not (some (ahead rank authors a) n)

-- the number of the author in the set that precedes all others of it, 0 if the set is empty
abbrev pub foremost : ℕ → (ℕ → ℕ) → ℕ → ℕ
foremost n rank authors = lowest (first n rank authors) n

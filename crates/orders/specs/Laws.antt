-- What ranks say of the consoles that take part, whatever the order of proposals. What is built on ranks rests on it.
use Rattle.std.specs.Prelude.{◌≡◌, ℕ, true, false, List, length, nat_lt, slice_set}
use Rattle.console_sets.specs.Sets.{member}
use Rattle.std.specs.declared.cmp.Ordering.{Ordering}
use Rattle.orders.specs.Ranks.{between, precedes, takes_part, rank}

-- the ranks of n proposals that compare as `place` says
pub record Ranking (n running : ℕ) (place : ℕ → ℕ → Ordering) (ranks : ℕ → ℕ) : Type 0 where
  -- two different consoles that take part have different ranks
  pub apart : (a b : ℕ) → takes_part n running a ≡ true → takes_part n running b ≡ true → ranks a ≡ ranks b → a ≡ b
  -- one has the lower rank exactly when it precedes the other
  pub lower : (a b : ℕ) → takes_part n running a ≡ true → takes_part n running b ≡ true → nat_lt (ranks a) (ranks b) ≡ precedes place a b
  -- proposals of any kind that compare alike on the consoles that take part have the same ranks
  pub alike : (other : ℕ → ℕ → Ordering)
      → ((a b : ℕ) → takes_part n running a ≡ true → takes_part n running b ≡ true → other a b ≡ place a b)
      → (c : ℕ) → rank n running other c ≡ ranks c

-- any other proposal of a console that does not run gives the same ranks
abbrev pub Unread : {P : Type 0} → (P → P → Ordering) → List P → ℕ → (ℕ → ℕ) → Type 0
Unread {P} places proposals running ranks =
    (fallen : ℕ) (other : P) → member running fallen ≡ false
    → (c : ℕ) → rank (length proposals) running (between places (slice_set proposals fallen other)) c ≡ ranks c

-- Who precedes whom among the authors of proposals, and the ranks that follow, as plain numbers.
-- Index c stands for the console c + 1: its proposal is the one at c, and it runs if c is a member of the running set.
use Rattle.std.specs.Prelude.{ℕ, Bool, cond, ◌&&◌, List, Some, None, Option, nat_lt}
use Rattle.std.specs.List.{slice_get}
use Rattle.console_sets.specs.Sets.{count, member}
use Rattle.std.specs.declared.cmp.Ordering.{Ordering}
use Rattle.std.specs.declared.cmp.Ordering.TheVariants.{Less, Equal, Greater}
use Rattle.std.specs.Ordering.{is_lt, nat_cmp, ordering_then}

-- where a proposal stands to another; an absent one comes after one that is there
abbrev pub among : {P : Type 0} → (P → P → Ordering) → Option P → Option P → Ordering
among places (Some x) (Some y) = places x y
among places (Some x) None = Less
among places None (Some y) = Greater
among places None None = Equal

-- where the proposal of author a stands to that of author b
abbrev pub between : {P : Type 0} → (P → P → Ordering) → List P → ℕ → ℕ → Ordering
between places proposals a b = among places (slice_get proposals a) (slice_get proposals b)

-- whether author a precedes author b: its proposal is before the other, or they are the same and a is the lower number
abbrev pub precedes : (ℕ → ℕ → Ordering) → ℕ → ℕ → Bool
precedes place a b = is_lt (ordering_then (place a b) (nat_cmp a b))

-- whether a console runs and has one of the n proposals
abbrev pub takes_part : ℕ → ℕ → ℕ → Bool
takes_part n running c = nat_lt c n && member running c

-- whether author b takes part and precedes author a
abbrev pub ahead_of : ℕ → ℕ → (ℕ → ℕ → Ordering) → ℕ → ℕ → Bool
ahead_of n running place a b = takes_part n running b && precedes place b a

-- how many of those that take part precede author a, or 0 if a does not take part
unfoldable pub rank : ℕ → ℕ → (ℕ → ℕ → Ordering) → ℕ → ℕ
rank n running place a = cond (takes_part n running a) (count (ahead_of n running place a) n) 0

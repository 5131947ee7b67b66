-- What holds of every run of the front, whoever falls and whatever is lost in its accepted rounds.
use Rattle.std.specs.Prelude.{◌≡◌, ℕ, suc, ◌+◌, ◌≤◌, true, false, ◌≢◌, List, length, Some}
use Rattle.console_sets.specs.Sets.{member}
use Rattle.front.specs.declared.consoles.Cause.TheVariants.{Front}
use Rattle.front.specs.Deciding.{new_estimate, present}
use Rattle.front.specs.Runs.{Opening, Round, running, state, Sound, Accepted}

-- Elimination: two consoles that complete round t + 1 with new estimates that are present have the same one, whatever the group, the ranks, the falls and
-- the rows.
abbrev pub Elimination : Type 0
Elimination =
    (o : Opening) (rs : List Round) → Sound o → Accepted o rs → length rs ≡ o.t + 1
    → (x y a b : ℕ) → member (running o rs) x ≡ true → member (running o rs) y ≡ true
    → new_estimate o.t (state o rs x) ≡ Some a → new_estimate o.t (state o rs y) ≡ Some b → a ≡ b

-- What round t + 2 hands over, by who ran when the press opened, who runs after the round, and each console's decision and entry, 0 for none.
-- What follows the front needs nothing else of it.
pub record HandedOver (ran running : ℕ) (decision entry : ℕ → ℕ) : Type 0 where
  -- all decisions have one author
  pub one_author : (c d : ℕ) → decision c ≢ 0 → decision d ≢ 0 → decision c ≡ decision d
  -- if there is one, every entry of a running console is that author
  pub entered : (c d : ℕ) → decision c ≢ 0 → member running d ≡ true → entry d ≡ decision c
  -- decisions, and entries of running consoles, are consoles that ran when the press opened
  pub decided_ran : (c : ℕ) → decision c ≢ 0 → (a : ℕ) × (decision c ≡ suc a) × (member ran a ≡ true)
  pub entry_ran : (c : ℕ) → member running c ≡ true → (a : ℕ) × (entry c ≡ suc a) × (member ran a ≡ true)

-- What truthful rounds up to t + 1 leave: halt sets within the fallen, so that nobody's new estimate is missing.
pub record Unhalted (o : Opening) (rs : List Round) : Type 0 where
  pub fallen_only : (c d : ℕ) → member (running o rs) c ≡ true → member (state o rs c).halt d ≡ true → member (running o rs) d ≡ false
  pub none_missing : length rs ≡ o.t + 1 → (c : ℕ) → member (running o rs) c ≡ true → present o.t (state o rs c) ≡ true

-- What truthful rounds up to t + 2 give to a console that completes them.
pub record OnTime (o : Opening) (rs : List Round) (c : ℕ) : Type 0 where
  -- it decides on an author
  pub author : ℕ
  pub decides : (state o rs c).decision ≡ suc author
  -- in exactly round t + 2
  pub exactly : (state o rs c).round ≡ o.t + 2
  pub by_front : (state o rs c).cause ≡ Front
  -- whom no console that completes them precedes
  pub foremost : (d : ℕ) → member (running o rs) d ≡ true → o.rank author ≤ o.rank d

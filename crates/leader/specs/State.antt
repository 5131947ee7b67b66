-- What every state of Leader keeps, over plain numbers and the consoles by index, from which the laws of a back end follow.
use Rattle.std.specs.Prelude.{◌≡◌, ℕ, ◌-◌, ◌*◌, ◌<◌, ◌≤◌, true, ◌≢◌, List, nat_le}
use Rattle.console_sets.specs.Sets.{count, member}
use Rattle.back_end.specs.Votes.{backing}
use Rattle.leader.specs.Rule.{State, is_commit}

-- a stamp is the number of a round that is done, or 0
abbrev pub Stamped : ℕ → State → Type 0
Stamped rounds s = (c : ℕ) → (s c).stamp ≤ rounds

-- with one stamp above 0 goes one estimate
abbrev pub Single : State → Type 0
Single s = (c d : ℕ) → (0 < (s c).stamp) × ((s c).stamp ≡ (s d).stamp) → (s c).estimate ≡ (s d).estimate

-- a running console of kind commit without a verdict committed in the last round
abbrev pub Fresh : ℕ → ℕ → State → Type 0
Fresh rounds running s =
    (c : ℕ) → (member running c ≡ true) × ((s c).verdict ≡ 0) × (is_commit (s c).kind ≡ true) → ((s c).stamp ≡ rounds) × (0 < rounds)

-- more than n/2 of all consoles, fallen ones with what they kept, have some stamp or a higher one, and all who have it have the estimate v
pub record Locked (n : ℕ) (s : State) (v : ℕ) : Type 0 where
  pub from : ℕ
  pub many : n < 2 * count (λ d. nat_le from (s d).stamp) n
  pub only : (d : ℕ) → d < n → from ≤ (s d).stamp → (s d).estimate ≡ v

-- a verdict is locked
abbrev pub Backed : ℕ → State → Type 0
Backed n s = (c : ℕ) → (s c).verdict ≢ 0 → ∥ Locked n s (s c).verdict ∥₁

-- an estimate is an entry
abbrev pub Entered : ℕ → List ℕ → State → Type 0
Entered n entries s = (c : ℕ) → (s c).estimate ≢ 0 → 0 < backing n entries (s c).estimate

-- a running console has an estimate
abbrev pub Estimating : ℕ → State → Type 0
Estimating running s = (c : ℕ) → member running c ≡ true → (s c).estimate ≢ 0

-- ---- steady rounds

-- no running console has a verdict
abbrev pub Quiet : ℕ → State → Type 0
Quiet running s = (c : ℕ) → member running c ≡ true → (s c).verdict ≡ 0

-- after a steady round without a verdict the running consoles have one stamp
abbrev pub Even : ℕ → ℕ → State → Type 0
Even steady running s =
    (c d : ℕ) → (0 < steady) × Quiet running s × (member running c ≡ true) × (member running d ≡ true) → (s c).stamp ≡ (s d).stamp

-- and name one leader
abbrev pub Naming : ℕ → ℕ → State → Type 0
Naming steady running s =
    (c d : ℕ) → (0 < steady) × Quiet running s × (member running c ≡ true) × (member running d ≡ true) → (s c).leader ≡ (s d).leader

-- who is one of them
abbrev pub Present : ℕ → ℕ → State → Type 0
Present steady running s =
    (c : ℕ) → (0 < steady) × Quiet running s × (member running c ≡ true) → (0 < (s c).leader) × (member running ((s c).leader - 1) ≡ true)

-- after two, one after the other, they have kind commit
abbrev pub Committed : ℕ → ℕ → State → Type 0
Committed steady running s =
    (c : ℕ) → (1 < steady) × Quiet running s × (member running c ≡ true) → is_commit (s c).kind ≡ true

-- after three they have verdicts
abbrev pub Settled : ℕ → ℕ → State → Type 0
Settled steady running s = 2 < steady → (c : ℕ) → member running c ≡ true → (s c).verdict ≢ 0

-- ---- all of it

pub record Keeps (n t running rounds steady : ℕ) (entries : List ℕ) (s : State) : Type 0 where
  pub served : 2 * t < n
  pub stamped : Stamped rounds s
  pub single : Single s
  pub fresh : Fresh rounds running s
  pub backed : Backed n s
  pub entered : Entered n entries s
  pub estimating : Estimating running s
  pub even : Even steady running s
  pub naming : Naming steady running s
  pub present : Present steady running s
  pub committed : Committed steady running s
  pub settled : Settled steady running s

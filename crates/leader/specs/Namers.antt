-- The sets of those that name each console.
use Rattle.std.specs.Prelude.{◌≡◌, ℕ, ◌<◌, List}
use Rattle.back_end.specs.Votes.{common}
use Rattle.leader.specs.Rule.{State, named}

-- they tell of each console how many in a row name it
abbrev pub Tells : ℕ → State → List ℕ → Type 0
Tells n s namers = (row d : ℕ) → d < n → common row namers d ≡ named n row s d

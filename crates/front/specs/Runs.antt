-- The run of a press's front: who runs, what each console has and which entries it hands over, as functions of what the press opened with and of its
-- accepted rounds, the latest first. The two are taken apart, so that the functions compute when a round is added.
use Rattle.std.specs.Prelude.{◌≡◌, ℕ, suc, ◌+◌, ◌*◌, ◌^◌, ◌<◌, true, if◌then◌else◌, List, [], ◌∷◌, length, None, ◌==◌, nat_le}
use Rattle.console_sets.specs.Sets.{member}
use Rattle.rounds.specs.Rounds.{completing, Truthful}
use Rattle.rounds.specs.Checks.{round_refusal}
use Rattle.front.specs.Consoles.{State, opened}
use Rattle.front.specs.Halting.{after_halting}
use Rattle.front.specs.Deciding.{after_deciding, entries_after}

-- what a press opens with: n consoles of which t may fall, who of them runs, and the rank of each author
pub record Opening : Type 0 where
  pub n : ℕ
  pub t : ℕ
  pub ran : ℕ
  pub rank : ℕ → ℕ

-- a round: who falls in it, and whom each console heard
pub record Round : Type 0 where
  pub falls : ℕ
  pub rows : List ℕ

-- who runs after these rounds, that is, who completed them all
abbrev pub running : Opening → List Round → ℕ
running o [] = o.ran
running o (r ∷ rs) = completing (running o rs) r.falls

-- the state after round k: rounds after t + 2 are not the front's
unfoldable pub after : Opening → ℕ → ℕ → List ℕ → State → State
after o k completing rows s =
    if nat_le k (o.t + 1) then after_halting o.n o.rank completing rows s
    else (if k == o.t + 2 then after_deciding o.n o.t completing rows s else s)

-- what each console has after these rounds
abbrev pub state : Opening → List Round → State
state o [] = opened o.ran
state o (r ∷ rs) = after o (suc (length rs)) (running o (r ∷ rs)) r.rows (state o rs)

-- the entries that round t + 2 handed over, 0 before it
abbrev pub entries : Opening → List Round → ℕ → ℕ
entries o [] c = 0
entries o (r ∷ rs) c =
    if length rs == o.t + 1 then entries_after o.n o.t (running o (r ∷ rs)) r.rows (state o rs) c else entries o rs c

-- what is asked of an opening: fewer than half may fall, who runs is one of the n, and no two of those have the same rank
pub record Sound (o : Opening) : Type 0 where
  pub few : 2 * o.t < o.n
  pub within : o.ran < 2 ^ o.n
  pub apart : (a b : ℕ) → member o.ran a ≡ true → member o.ran b ≡ true → o.rank a ≡ o.rank b → a ≡ b

-- that each round was accepted
abbrev pub Accepted : Opening → List Round → Type 0
Accepted o [] = Unit {0}
Accepted o (r ∷ rs) = Accepted o rs × (round_refusal o.n o.t (running o rs) (length rs) r.falls r.rows ≡ None)

-- that each round was truthful
abbrev pub AllTruthful : Opening → List Round → Type 0
AllTruthful o [] = Unit {0}
AllTruthful o (r ∷ rs) = AllTruthful o rs × Truthful (running o rs) r.falls r.rows

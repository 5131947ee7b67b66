-- What holds of every press, whoever falls and whatever is lost in its accepted rounds, for every order of proposals and every back end that keeps its laws.
use Rattle.std.specs.Prelude.{◌≡◌, ℕ, suc, ◌+◌, ◌-◌, ◌<◌, ◌≤◌, Bool, true, false, ◌≢◌, length, nat_eq}
use Rattle.console_sets.specs.Sets.{count, member}
use Rattle.std.specs.Ordering.{is_lt}
use Rattle.front.specs.Consoles.{State}
use Rattle.front.specs.Searches.{some}
use Rattle.rig.specs.Later.{lacks}
use Rattle.rig.specs.Presses.{Press, opened_with, consoles, running_after, completing_first, FirstTruthful, LastSteady}

-- whether some console, fallen or not, has decided on the author of index a
abbrev pub decided_on : ℕ → State → ℕ → Bool
decided_on n s a = some (λ c. nat_eq (s c).decision (suc a)) n

-- a console that ran when the press opened, by number
pub record Ran (n : ℕ) (press : Press) (author : ℕ) : Type 0 where
  pub index : ℕ
  pub is : author ≡ suc index
  pub below : index < n
  pub ran : member press.ran index ≡ true

-- what truthful rounds give to a console that completes round t + 2
pub record OnTime (n t : ℕ) (press : Press) (c : ℕ) : Type 0 where
  -- it has decided, in exactly that round
  pub decides : (consoles n t press c).decision ≢ 0
  pub exactly : (consoles n t press c).round ≡ t + 2
  -- and the own proposal of no console that completes that round stands before the decided one
  pub none_before : (d : ℕ) → member (completing_first (t + 2) n t press) d ≡ true → is_lt (press.place d ((consoles n t press c).decision - 1)) ≡ false

-- a press of n consoles of which t may fall, with a back end of this bound
pub record Lawful (n t bound : ℕ) (press : Press) : Type 0 where
  -- the count of different authors among the decisions, those of fallen consoles included, is nought or one
  pub one_author : count (decided_on n (consoles n t press)) n ≤ 1
  -- and each was running when the press opened
  pub author_ran : (c : ℕ) → (consoles n t press c).decision ≢ 0 → Ran n press (consoles n t press c).decision
  -- if rounds 1 to t + 2 were truthful, each console that completes round t + 2 decides in time
  pub on_time : t + 2 ≤ length press.played → FirstTruthful (t + 2) n t press
      → (c : ℕ) → member (completing_first (t + 2) n t press) c ≡ true → OnTime n t press c
  -- if the last bound + 1 rounds were steady, and all later than round t + 2, the count of running consoles without a decision is nought
  pub settles : t + 2 + suc bound ≤ length press.played → LastSteady (suc bound) (opened_with n t press) press.played
      → count (lacks (running_after n t press) (consoles n t press)) n ≡ 0

-- The rule of the back end Third: which pairs it serves, and which estimates and verdicts each round leaves.
-- Index c stands for the console c + 1, and index a for the author a + 1.
use Rattle.std.specs.Prelude.{◌≡◌, ℕ, suc, ◌*◌, Bool, cond, ◌&&◌, ltb, List, ◌==◌, nat_eq, nat_lt}
use Rattle.console_sets.specs.Sets.{lowest, member}
use Rattle.rounds.specs.Items.{at}
use Rattle.back_end.specs.Largest.{largest}
use Rattle.back_end.specs.Votes.{votes}

abbrev pub third_serves : ℕ → ℕ → Bool
third_serves n t = nat_lt (3 * t) n

-- how many consoles in a row have each author
abbrev pub poll : ℕ → ℕ → List ℕ → ℕ → ℕ
poll n row estimates a = votes n row estimates (suc a)

-- the author that most have, and of several that equally many have the lowest
abbrev pub favourite : (ℕ → ℕ) → ℕ → ℕ
favourite polled n = lowest (λ a. nat_eq (polled a) (largest polled n)) n

-- the author that more than 2n/3 have, or 0 if there is none
abbrev pub elected : (ℕ → ℕ) → ℕ → ℕ
elected polled n = lowest (λ a. ltb (2 * n) (3 * polled a)) n

-- the estimate of the console c after a round, given the set of those that complete it and the poll in each one's row
abbrev pub estimate_after : ℕ → ℕ → (ℕ → ℕ → ℕ) → List ℕ → ℕ → ℕ
estimate_after n complete polls estimates c = cond (member complete c) (favourite (polls c) n) (at estimates c)

-- its verdict: one that stands stays
abbrev pub verdict_after : ℕ → ℕ → (ℕ → ℕ → ℕ) → List ℕ → ℕ → ℕ
verdict_after n complete polls verdicts c = cond (member complete c && at verdicts c == 0) (elected (polls c) n) (at verdicts c)

-- one round, in which both are judged on the estimates that the consoles had at its start
pub record ThirdRound (n complete : ℕ) (rows estimates verdicts estimates' verdicts' : List ℕ) : Type 0 where
  pub estimates_are : (c : ℕ) → at estimates' c ≡ estimate_after n complete (λ d. poll n (at rows d) estimates) estimates c
  pub verdicts_are : (c : ℕ) → at verdicts' c ≡ verdict_after n complete (λ d. poll n (at rows d) estimates) verdicts c

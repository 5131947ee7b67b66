-- The history of a press: who ran when it opened, how its proposals compare, and its accepted rounds, the latest first, each with the verdicts that the
-- back end then has. All else is a function of it.
use Rattle.std.specs.Prelude.{◌≡◌, ℕ, zero, suc, ◌+◌, ◌-◌, true, cond, ◌&&◌, List, [], ◌∷◌, map, length, drop, nat_le, nat_lt}
use Rattle.std.specs.declared.cmp.Ordering.{Ordering}
use Rattle.orders.specs.Ranks.{rank}
use Rattle.rounds.specs.Items.{at}
use Rattle.rounds.specs.Rounds.{steady_round}
use Rattle.back_end.specs.Meaning.{Meaning}
use Rattle.front.specs.Consoles.{State, opened}
use Rattle.front.specs.Runs.{Opening, Round, running, entries, AllTruthful}
use Rattle.front.specs.Runs as front
use Rattle.rig.specs.Later.{after_later}

-- an accepted round, with the verdict that the back end then has for each console: 0 for all up to round t + 2
pub record Played : Type 0 where
  pub round : Round
  pub verdicts : ℕ → ℕ

pub record Press : Type 0 where
  -- who ran when it opened
  pub ran : ℕ
  -- where the proposal of one console stands to that of another
  pub place : ℕ → ℕ → Ordering
  -- the accepted rounds, the latest first
  pub played : List Played

-- what the front needs to know of the opening: ranks tell who precedes whom
abbrev pub opening : ℕ → ℕ → ℕ → (ℕ → ℕ → Ordering) → Opening
opening n t ran place = record { n = n; t = t; ran = ran; rank = rank n ran place }

-- the rounds without the verdicts
abbrev pub rounds_of : List Played → List Round
rounds_of ps = map (λ p. p.round) ps

-- what each console has after these rounds: the front's up to round t + 2, and then relay and verdicts
abbrev pub state : Opening → List Played → State
state o [] = opened o.ran
state o (p ∷ ps) =
    cond (nat_le (suc (length ps)) (o.t + 2))
    (front.after o (suc (length ps)) (running o (rounds_of (p ∷ ps))) p.round.rows (state o ps))
    (after_later o.n (suc (length ps)) (running o (rounds_of (p ∷ ps))) p.round.rows p.verdicts (state o ps))

-- the verdicts after these rounds
abbrev pub verdicts_of : List Played → ℕ → ℕ
verdicts_of [] c = 0
verdicts_of (p ∷ ps) c = p.verdicts c

-- how many of the last rounds, one after the other, were steady and later than round t + 2
abbrev pub steadies : Opening → List Played → ℕ
steadies o [] = 0
steadies o (p ∷ ps) =
    cond (nat_lt (o.t + 1) (length ps) && steady_round o.n (running o (rounds_of ps)) p.round.falls p.round.rows) (steadies o ps + 1) 0

-- the first k rounds
abbrev pub first_rounds : ℕ → List Played → List Played
first_rounds k ps = drop (length ps - k) ps

-- that the last k rounds were steady
abbrev pub LastSteady : ℕ → Opening → List Played → Type 0
LastSteady zero o ps = Unit {0}
LastSteady (suc k) o [] = ⊥
LastSteady (suc k) o (p ∷ ps) = (steady_round o.n (running o (rounds_of ps)) p.round.falls p.round.rows ≡ true) × LastSteady k o ps

-- ---- the same of a press of n consoles of which t may fall

abbrev pub opened_with : ℕ → ℕ → Press → Opening
opened_with n t press = opening n t press.ran press.place

-- what each console has in it
abbrev pub consoles : ℕ → ℕ → Press → State
consoles n t press = state (opened_with n t press) press.played

-- who runs after it
abbrev pub running_after : ℕ → ℕ → Press → ℕ
running_after n t press = running (opened_with n t press) (rounds_of press.played)

-- who completes its first k rounds
abbrev pub completing_first : ℕ → ℕ → ℕ → Press → ℕ
completing_first k n t press = running (opened_with n t press) (rounds_of (first_rounds k press.played))

-- that its first k rounds were truthful
abbrev pub FirstTruthful : ℕ → ℕ → ℕ → Press → Type 0
FirstTruthful k n t press = AllTruthful (opened_with n t press) (rounds_of (first_rounds k press.played))

-- the meaning of the back end once the press has had round t + 2
pub record Meant (o : Opening) (ps : List Played) (m : Meaning) : Type 0 where
  pub for_n : m.n ≡ o.n
  pub for_t : m.t ≡ o.t
  pub runs : m.running ≡ running o (rounds_of ps)
  pub enters : (c : ℕ) → at m.entries c ≡ entries o (rounds_of ps) c
  pub since : m.rounds + (o.t + 2) ≡ length ps
  pub verdicts : (c : ℕ) → at m.verdicts c ≡ verdicts_of ps c
  pub counts : m.steady ≡ steadies o ps

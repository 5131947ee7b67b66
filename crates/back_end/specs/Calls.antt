-- What the calls of a back end answer, and what an accepted call does to its meaning: one field for each sentence of the rule.
use Rattle.std.specs.Prelude.{◌≡◌, ℕ, ◌+◌, false, cond, ◌≢◌, List, Option, Result}
use Rattle.console_sets.specs.Sets.{member}
use Rattle.rounds.specs.Items.{at}
use Rattle.rounds.specs.Refusals.{answer}
use Rattle.rounds.specs.Rounds.{completing, steady_round}
use Rattle.rounds.specs.Checks.{start_refusal, round_refusal}
use Rattle.rounds.specs.declared.refusals.Refusal.{Refusal}
use Rattle.back_end.specs.Meaning.{Meaning}

-- why a start or a round of a back end with this meaning is refused, and what it answers
abbrev pub start_refused : Meaning → ℕ → List ℕ → Option Refusal
start_refused m running entries = start_refusal m.n m.t running entries

abbrev pub round_refused : Meaning → ℕ → List ℕ → Option Refusal
round_refused m falls rows = round_refusal m.n m.t m.running m.rounds falls rows

abbrev pub start_answer : Meaning → ℕ → List ℕ → Result (Unit {0}) Refusal
start_answer m running entries = answer (start_refused m running entries)

abbrev pub round_answer : Meaning → ℕ → List ℕ → Result (Unit {0}) Refusal
round_answer m falls rows = answer (round_refused m falls rows)

-- a list with 0 for every console
abbrev pub Blank : List ℕ → Type 0
Blank xs = (c : ℕ) → at xs c ≡ 0

-- as made for n and t
pub record Made (n t : ℕ) (m : Meaning) : Type 0 where
  pub for_n : m.n ≡ n
  pub for_t : m.t ≡ t
  pub nobody_runs : m.running ≡ 0
  pub no_entries : Blank m.entries
  pub no_rounds : m.rounds ≡ 0
  pub no_verdicts : Blank m.verdicts
  pub not_steady : m.steady ≡ 0

-- after an accepted start
pub record Started (running : ℕ) (entries : List ℕ) (before after : Meaning) : Type 0 where
  pub same_n : after.n ≡ before.n
  pub same_t : after.t ≡ before.t
  pub runs : after.running ≡ running
  pub enters : (c : ℕ) → at after.entries c ≡ cond (member running c) (at entries c) 0
  pub no_rounds : after.rounds ≡ 0
  pub no_verdicts : Blank after.verdicts
  pub not_steady : after.steady ≡ 0

-- verdicts after a round: what stood stays, and only a completing console gains one
pub record Gained (running falls : ℕ) (had has : List ℕ) : Type 0 where
  pub keeps : (c : ℕ) → at had c ≢ 0 → at has c ≡ at had c
  pub others : (c : ℕ) → member (completing running falls) c ≡ false → at has c ≡ at had c

-- after an accepted round
pub record Rounded (falls : ℕ) (rows : List ℕ) (before after : Meaning) : Type 0 where
  pub same_n : after.n ≡ before.n
  pub same_t : after.t ≡ before.t
  pub runs : after.running ≡ completing before.running falls
  pub same_entries : after.entries ≡ before.entries
  pub one_more : after.rounds ≡ before.rounds + 1
  pub gained : Gained before.running falls before.verdicts after.verdicts
  pub counts : after.steady ≡ cond (steady_round before.n before.running falls rows) (before.steady + 1) 0

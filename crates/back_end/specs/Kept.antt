-- The meaning of a back end that keeps a Progress, and what the calls of a Progress give it, whatever verdicts the back end keeps beside it.
use Rattle.std.specs.Prelude.{ℕ, List}
use Rattle.back_end.specs.Meaning.{Meaning}
use Rattle.back_end.specs.Calls.{Blank, Made, Started, Gained, Rounded}
use Rattle.back_end.specs.declared.progress.Progress.{Progress}

abbrev pub meaning_with : Progress → List ℕ → Meaning
meaning_with p verdicts = record {
  n = p.n;
  t = p.t;
  running = p.running;
  entries = p.entries;
  rounds = p.rounds;
  verdicts = verdicts;
  steady = p.steady;
}

-- as made for n and t, with no verdicts
abbrev pub Makes : ℕ → ℕ → Progress → Type 0
Makes n t p = (verdicts : List ℕ) → Blank verdicts → Made n t (meaning_with p verdicts)

-- after a start, with no verdicts
abbrev pub Starts : ℕ → List ℕ → Progress → Progress → Type 0
Starts running entries before after =
    (had verdicts : List ℕ) → Blank verdicts → Started running entries (meaning_with before had) (meaning_with after verdicts)

-- after a round, with verdicts that stay where they stood and that only completing consoles gained
abbrev pub Advances : ℕ → List ℕ → Progress → Progress → Type 0
Advances falls rows before after =
    (had verdicts : List ℕ) → Gained before.running falls had verdicts → Rounded falls rows (meaning_with before had) (meaning_with after verdicts)

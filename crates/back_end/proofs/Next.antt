-- Where a back end stands after a round, as a value: it is known but for the verdicts.
use Rattle.std.proofs.Common.{◌≡◌, ℕ, ◌+◌, cond, List}
use Rattle.rounds.specs.Rounds.{completing, steady_round}
use Rattle.back_end.specs.Meaning.{Meaning}
use Rattle.back_end.specs.Calls.{Rounded}

-- the meaning after a round that leaves these verdicts
abbrev pub next : Meaning → ℕ → List ℕ → List ℕ → Meaning
next m falls rows verdicts = record {
  n = m.n;
  t = m.t;
  running = completing m.running falls;
  entries = m.entries;
  rounds = m.rounds + 1;
  verdicts = verdicts;
  steady = cond (steady_round m.n m.running falls rows) (m.steady + 1) 0;
}

pub rounded_is : (falls : ℕ) (rows : List ℕ) (before after : Meaning) → Rounded falls rows before after → after ≡ next before falls rows after.verdicts
rounded_is falls rows before after r = λ j. record {
  n = r.same_n j;
  t = r.same_t j;
  running = r.runs j;
  entries = r.same_entries j;
  rounds = r.one_more j;
  verdicts = after.verdicts;
  steady = r.counts j;
}

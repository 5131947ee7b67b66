use Rattle.rounds.proofs.Accepted.{steady_ok, ok_steady, steady_truthful}
use Rattle.rounds.proofs.theorems.laws_of_rounds.Goals as goal

pub returns : goal.returns
returns c = record { steady_ok = steady_ok; ok_steady = ok_steady; truthful = steady_truthful }

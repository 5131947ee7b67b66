use Rattle.rounds.proofs.Accepted.{size_ok, make_ok, start_ok, round_ok}
use Rattle.rounds.proofs.theorems.laws_of_checks.Goals as goal

pub returns : goal.returns
returns c = record { size_ok = size_ok; make_ok = make_ok; start_ok = start_ok; round_ok = round_ok }

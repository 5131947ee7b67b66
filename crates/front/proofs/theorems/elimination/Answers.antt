use Rattle.std.proofs.Common.{sym, ◌∙◌, arith}
use Rattle.front.specs.Runs.{state}
use Rattle.front.proofs.Steps.{halt_within}
use Rattle.front.proofs.NewEstimates.{present_of, few_halted}
use Rattle.front.proofs.Eliminated.{eliminated}
use Rattle.front.proofs.theorems.elimination.Goals as goal

pub returns : goal.returns
returns c o rs opens good l x y a b mx my ea eb =
    let pa = present_of o.t (state o rs x) a ea in
    let pb = present_of o.t (state o rs y) b eb in
    sym pa.1 ∙ eliminated o opens rs good l x y mx my (few_halted o.t (state o rs x) o.n (halt_within o opens rs x (omega arith)) pa.0)
    (few_halted o.t (state o rs y) o.n (halt_within o opens rs y (omega arith)) pb.0) ∙ pb.1

use Rattle.std.proofs.Common.{ℕ, ◌^◌, ◌<◌, sym, subst}
use Rattle.console_sets.proofs.Digits.{without_lt}
use Rattle.back_end.proofs.progress.Progress.advanced.Goals as goal

pub invariant_of-result-clause-within : goal.invariant_of-result-clause-within
invariant_of-result-clause-within c =
    let p = c.args.self.now in
    subst (λ (r : ℕ). r < 2 ^ p.n) (sym c.difference.ensures) (without_lt p.n p.running c.args.falls p.within)

use Rattle.std.proofs.Common.{rules, ◌≡◌, sym, ◌∙◌, arith}
use lib.Count.{ones}
use Rattle.console_sets.specs.Bound.{max_consoles}
use Rattle.console_sets.proofs.Digits.{ones-count}
use Rattle.front.proofs.consoles.Console.new_estimate.Goals as goal

pub returns : goal.returns
returns c =
    let halt = c.args.self.halt in
    let counted : c.size.result ≡ ones halt = c.size.ensures ∙ sym (ones-count max_consoles halt (omega arith)) in
    search rules

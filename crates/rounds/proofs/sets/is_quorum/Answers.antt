use Rattle.std.proofs.Common.{leb, sym, ◌∙◌, ap₂, arith}
use Rattle.console_sets.specs.Bound.{max_consoles}
use Rattle.console_sets.proofs.Digits.{ones-count}
use Rattle.rounds.proofs.sets.is_quorum.Goals as goal

pub returns : goal.returns
returns c = ap₂ leb c.saturating_sub.ensures (c.size.ensures ∙ sym (ones-count max_consoles c.args.set (omega arith)))

use Rattle.std.proofs.Common.{◌≤◌, sym, ◌∙◌, arith}
use Rattle.std.proofs.lemmas.Bool.{le-ltb}
use Rattle.console_sets.specs.Bound.{max_consoles}
use Rattle.console_sets.proofs.Digits.{member_above}
use Rattle.console_sets.proofs.members.has.Goals as goal

pub returns-else-c-lt-MAX_CONSOLES : goal.returns-else-c-lt-MAX_CONSOLES
returns-else-c-lt-MAX_CONSOLES c =
    let far : max_consoles ≤ c.args.c = omega arith in
    le-ltb c.args.c max_consoles far ∙ sym (member_above max_consoles c.args.s c.args.c (omega arith) far)

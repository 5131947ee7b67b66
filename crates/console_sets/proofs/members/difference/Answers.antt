use Rattle.std.proofs.Common.{◌-◌, ◌^◌, ◌<◌, Bool, ◌&&◌, sym, ap, ◌∙◌, arith}
use lib.Bits.{bit_and, and_lt}
use Rattle.console_sets.specs.Bound.{max_consoles}
use Rattle.console_sets.specs.Sets.{member, all, without}
use Rattle.console_sets.proofs.Digits.{member_and, member_rest, member-without, member_ext, without_lt}
use Rattle.console_sets.proofs.members.difference.Goals as goal

pub returns : goal.returns
returns c =
    let a = c.args.a in
    let b = c.args.b in
    let ha : a < 2 ^ max_consoles = omega arith in
    let hb : b < 2 ^ max_consoles = omega arith in
    let hr : all max_consoles - b < 2 ^ max_consoles = omega arith in
    member_ext max_consoles (bit_and a (all max_consoles - b)) (without a b) (and_lt max_consoles a (all max_consoles - b) ha hr)
    (without_lt max_consoles a b ha)
    (λ i l. member_and a (all max_consoles - b) i ∙ ap (λ (x : Bool). member a i && x) (member_rest max_consoles b i hb l) ∙ sym (member-without a b i))

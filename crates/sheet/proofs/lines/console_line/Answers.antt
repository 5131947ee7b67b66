use Rattle.std.proofs.Common.{◌≤◌, length, ap, arith}
use Rattle.front.specs.declared.consoles.Cause.{Cause}
use Rattle.front.specs.declared.consoles.Cause.TheVariants.{None, Front, Relay, Back}
use Rattle.front.specs.Consoles.{word_of}
use Rattle.sheet.proofs.Decimals.{length-decimal_8, length-decimal_32, length-decimal}
use Rattle.sheet.proofs.lines.console_line.Goals as goal

short : (cause : Cause) → length (word_of cause) ≤ 5
short None = omega arith
short Front = omega arith
short Relay = omega arith
short Back = omega arith

pub number-requires-5 : goal.number-requires-5
number-requires-5 c =
    omega (
      arith,
      ap length c.begin.ensures,
      c.number.ensures.used,
      length-decimal_8 c.into.result (omega (arith, c.into.ensures)),
      c.number-2.ensures.used,
      length-decimal_8 c.into-2.result (omega (arith, c.into-2.ensures)),
      c.set.ensures.used,
      c.number-3.ensures.used,
      length-decimal_8 c.into-3.result (omega (arith, c.into-3.ensures)),
      c.number-4.ensures.used,
      length-decimal_32 c.into-4.result (omega (arith, c.into-4.ensures)),
      c.word-2.ensures.used,
      ap length c.word.ensures,
      short c.args.console.now.cause,
      length-decimal c.wait.result (omega (arith, c.wait.type_inv)),
    )

pub end-requires : goal.end-requires
end-requires c =
    omega (
      arith,
      ap length c.begin.ensures,
      c.number.ensures.used,
      length-decimal_8 c.into.result (omega (arith, c.into.ensures)),
      c.number-2.ensures.used,
      length-decimal_8 c.into-2.result (omega (arith, c.into-2.ensures)),
      c.set.ensures.used,
      c.number-3.ensures.used,
      length-decimal_8 c.into-3.result (omega (arith, c.into-3.ensures)),
      c.number-4.ensures.used,
      length-decimal_32 c.into-4.result (omega (arith, c.into-4.ensures)),
      c.word-2.ensures.used,
      ap length c.word.ensures,
      short c.args.console.now.cause,
      c.number-5.ensures.used,
      length-decimal c.wait.result (omega (arith, c.wait.type_inv)),
    )

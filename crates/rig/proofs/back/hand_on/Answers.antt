use Rattle.std.proofs.Common.{sym, ◌∙◌, arith}
use Rattle.console_sets.specs.Bound.{max_consoles}
use Rattle.rounds.proofs.Fill.{blank}
use Rattle.rounds.proofs.Accepted.{accepted}
use Rattle.rig.proofs.Handing.{refusal_starts, told_early}
use Rattle.rig.proofs.back.hand_on.Goals as goal

pub returns-then-panel-last-2-clause-answers : goal.returns-then-panel-last-2-clause-answers
returns-then-panel-last-2-clause-answers g c =
    let panel = c.args.panel.now in
    let m = g.B.BackEnd.meaning c.args.back.now in
    let m' = g.B.BackEnd.meaning c.start.new.back in (
      refusal_starts panel c.args.falls c.args.rows.now m (omega arith) ∙ accepted _ c.in_ok-start.ensures.answers,
      λ i l. blank max_consoles i 0 ∙ sym (told_early panel c.args.falls c.args.rows.now m' (omega arith) i),
    )

use Rattle.std.proofs.Common.{ℕ, ◌+◌, refl, ap, ◌∙◌, arith}
use Rattle.rounds.specs.Items.{at}
use Rattle.rig.specs.Steps.{after_round}
use Rattle.rig.proofs.Turning.{round_alike}
use Rattle.rig.proofs.advancing.advanced.Goals as goal

pub returns : goal.returns
returns c told h =
    let panel = c.args.panel.now in
    let k = panel.rounds + 1 in
    let rows = c.args.rows.now in
    record {
      is_number = refl;
      for_n = refl;
      for_t = refl;
      who = c.difference-running.ensures;
      press = refl;
      is_open = refl;
      counted = refl;
      ranks = refl;
      consoles = λ i. c.after_round.ensures i
          ∙ round_alike panel k c.difference-running.result rows (at c.args.verdicts.now) told (omega arith) h i
          ∙ ap (λ (x : ℕ). after_round panel k x rows told i) c.difference-running.ensures;
    }

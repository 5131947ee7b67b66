use Rattle.std.proofs.Common.{◌≡◌, ℕ, ◌+◌, ◌<◌, min, List, sym, ap, ◌∙◌, arith}
use Rattle.std.proofs.lemmas.Bool.{cond-true, cond-false, le-leb, lt-leb, eq-eqb}
use Rattle.console_sets.specs.Bound.{max_consoles}
use Rattle.rounds.specs.Items.{at}
use Rattle.front.specs.Consoles.{State, state_of}
use Rattle.front.specs.Halting.{after_halting}
use Rattle.front.specs.Deciding.{after_deciding}
use Rattle.front.specs.Runs as front
use Rattle.rig.specs.declared.panel.Panel.{Panel}
use Rattle.rig.specs.Steps.{after_round}
use Rattle.rig.proofs.advancing.after_round.Goals as goal

module _ (panel : Panel) (k completing : ℕ) (rows : List ℕ) (verdicts : ℕ → ℕ) where
  halting-round : k < panel.t + 2 → after_round panel k completing rows verdicts ≡ after_halting panel.n (at panel.ranks) completing rows (state_of panel.consoles)
  unfolding front.after
  halting-round l = cond-true _ _ _ (le-leb k (panel.t + 2) (omega arith)) ∙ cond-true _ _ _ (le-leb k (panel.t + 1) (omega arith))

  deciding-round : k ≡ panel.t + 2 → after_round panel k completing rows verdicts ≡ after_deciding panel.n panel.t completing rows (state_of panel.consoles)
  unfolding front.after
  deciding-round e =
      cond-true _ _ _ (le-leb k (panel.t + 2) (omega arith))
      ∙ cond-false _ _ _ (lt-leb k (panel.t + 1) (omega arith))
      ∙ cond-true _ _ _ (eq-eqb k (panel.t + 2) e)

pub returns-then-k-deciding : goal.returns-then-k-deciding
returns-then-k-deciding c i =
    let panel = c.args.panel.now in
    let few : min panel.n max_consoles ≡ panel.n = omega arith in
    c.after_halting.ensures i
    ∙ ap (λ (x : ℕ). after_halting x (at panel.ranks) c.args.completing c.args.rows.now (state_of panel.consoles) i) few
    ∙ sym (ap (λ (s : State). s i) (halting-round panel c.args.k c.args.completing c.args.rows.now (at c.args.verdicts.now) (omega arith)))

pub returns-then-k-deciding-2 : goal.returns-then-k-deciding-2
returns-then-k-deciding-2 c i =
    c.after_deciding.ensures i
    ∙ sym (ap (λ (s : State). s i) (deciding-round c.args.panel.now c.args.k c.args.completing c.args.rows.now (at c.args.verdicts.now) (omega arith)))

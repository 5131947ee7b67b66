use Rattle.std.proofs.Common.{◌*◌, ◌<◌, Bool, replicate, sym, ap, ◌∙◌}
use Rattle.std.proofs.lemmas.Bool.{ltb-true}
use Rattle.console_sets.specs.Bound.{max_consoles}
use Rattle.rounds.specs.Checks.{make_refusal}
use Rattle.rounds.proofs.Accepted.{make_ok}
use Rattle.rounds.proofs.Fill.{blank}
use Rattle.third.specs.Keeps.{made_keeps}
use Rattle.third.proofs.calls.ThirdBackEnd.make.Goals as goal

pub invariant_of-result : goal.invariant_of-result
invariant_of-result c =
    let n = c.args.n in
    let t = c.args.t in
    let e = c.in_ok-progress.ensures in
    let served : 3 * t < n = ltb-true (3 * t) n (sym c.is_served.ensures ∙ (make_ok c.is_served.result n t e.0).0) in
    let k = made_keeps n t _ (e.1 (replicate max_consoles 0) (λ i. blank max_consoles i 0)) served c.in_ok-progress.progress.within in
    record { keeps = k }

pub returns : goal.returns
returns c =
    let e = c.in_ok-progress.ensures in (
      sym (ap (λ (s : Bool). make_refusal s c.args.n c.args.t) c.is_served.ensures) ∙ e.0,
      e.1 (replicate max_consoles 0) (λ i. blank max_consoles i 0),
    )

use Rattle.std.proofs.Common.{◌≡◌, ℕ, ◌+◌, ◌≤◌, List, [], ◌∷◌, ◌++◌, map, length, take, set, sym, ap, ◌∙◌, subst, arith}
use Rattle.std.proofs.lemmas.List.{take_all, map_more, length-map, length-take-le}
use Rattle.rig.specs.Calls.{asked}
use Rattle.rig.specs.Shows.{Asked}
use Rattle.rig.proofs.Strings.{Partly, partly_none, partly_more, performed, brings}
use Rattle.rig.proofs.rig.Rig.perform.Goals as goal

pub loop-i-init : goal.loop-i-init
loop-i-init g c s cs show led st = partly_none c.args.answers.now led st

pub loop-i-preserved : goal.loop-i-preserved
loop-i-preserved g c s cs show led st =
    let f = asked g.P.Order.places in
    let a = c.step-answer.new.self in
    let i = c.loop-i.i in
    let xs = c.args.calls.now in
    let x = c.index-calls-i.result in
    let laws = g.met.P.Order in
    let kept = g.met.B.BackEnd in
    let asks = map f (take i xs) in
    let within : i ≤ length xs = omega arith in
    let len : length asks ≡ i = length-map (take i xs) f ∙ length-take-le i xs within in
    let grown : map f (take (i + 1) xs) ≡ asks ++ f x ∷ [] = map_more f xs i x (omega arith) ∙ ap (λ (y : _). asks ++ f y ∷ []) (sym c.index-calls-i.is) in
    subst (λ (y : List Asked). Partly g.B.BackEnd.BOUND s cs show y a.panel a.book (g.B.BackEnd.meaning a.back) c.args.answers.now c.write_down.new.answers) (sym grown)
    (partly_more asks (f x) c.step-answer.result c.write_down.new.answers (c.loop-i.invariant s cs show led st) c.step-answer.ensures
    (brings g.P.Order.places (record { mirrored = laws.mirrored; onward = laws.onward; alike = laws.alike }) g.B.BackEnd.BOUND x (g.B.BackEnd.meaning a.back) (kept.agrees a.back) (kept.settles a.back))
    (λ l. c.write_down.ensures.there (omega arith) ∙ ap (λ (k : ℕ). set c.loop-i.answers k c.step-answer.result) (sym len))
    (λ l. c.write_down.ensures.past (omega arith)) (omega arith))

pub returns : goal.returns
returns g c s cs show led st =
    let f = asked g.P.Order.places in
    let a = c.loop-i.self in
    let full : length c.args.calls.now ≤ c.loop-i.i = omega arith in
    performed (map f c.args.calls.now)
    (subst (λ (x : List _). Partly g.B.BackEnd.BOUND s cs show (map f x) a.panel a.book (g.B.BackEnd.meaning a.back) c.args.answers.now c.loop-i.answers)
    (take_all c.loop-i.i c.args.calls.now full) (c.loop-i.invariant s cs show led st))

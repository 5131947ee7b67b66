use Rattle.std.proofs.Common.{List, map, take}
use Rattle.rig.specs.Calls.{asked}
use Rattle.rig.specs.Shows.{Setting, Answered, Show, Led, Stands}
use Rattle.rig.proofs.Strings.{Partly}
use Rattle.rig.proofs.rig.Rig.perform.Given as goal

abbrev pub invariant-loop-i : goal.invariant-loop-i
invariant-loop-i g l =
    (s : Setting) (cs : List Answered) (show : Show)
    → Led g.B.BackEnd.BOUND s cs show (g.B.BackEnd.meaning l.initial.self.back) → Stands s show l.initial.self.panel l.initial.self.book
    → Partly g.B.BackEnd.BOUND s cs show (map (asked g.P.Order.places) (take l.i l.calls)) l.self.panel l.self.book (g.B.BackEnd.meaning l.self.back) l.initial.answers l.answers

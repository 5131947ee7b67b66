use Rattle.std.proofs.Common.{◌≡◌, ℕ, List, take, ap, ◌∙◌, subst, arith, MatchResult}
use Rattle.front.specs.Consoles.{state_of}
use Rattle.front.specs.Deciding.{entries_after}
use Rattle.rounds.specs.Rounds.{completing}
use Rattle.back_end.specs.Calls.{start_answer, Started}
use Rattle.rig.specs.Steps.{entry_list}
use Rattle.rig.proofs.Handing.{taken}
use Rattle.rig.proofs.back.start.Goals as goal

pub returns : goal.returns
returns g c =
    let panel = c.args.panel.now in
    let s = state_of panel.consoles in
    let rows = c.args.rows.now in
    let m = g.B.BackEnd.meaning c.args.back.now in
    let run = c.difference-running.ensures in
    let list : take panel.n c.entries-all.result ≡ entry_list panel c.args.falls rows =
    taken c.entries-all.result (entries_after panel.n panel.t (completing panel.running c.args.falls) rows s) panel.n (omega arith)
    (λ i. c.entries-all.ensures i ∙ ap (λ (x : ℕ). entries_after panel.n panel.t x rows s i) run) in
    record {
      answers = c.start.ensures.answers ∙ (λ j. start_answer m (run j) (list j));
      leaves = subst (λ (x : List ℕ). MatchResult c.start.result (λ _. Started (completing panel.running c.args.falls) x m (g.B.BackEnd.meaning c.start.new.self)) (λ _. c.start.new.self ≡ c.args.back.now)) list
          (subst (λ (x : ℕ). MatchResult c.start.result (λ _. Started x (take panel.n c.entries-all.result) m (g.B.BackEnd.meaning c.start.new.self)) (λ _. c.start.new.self ≡ c.args.back.now)) run c.start.ensures.leaves);
    }

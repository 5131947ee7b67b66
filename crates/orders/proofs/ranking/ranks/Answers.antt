use Rattle.std.proofs.Common.{rules, ◌≡◌, ℕ, ltb, length, slice_index, sym, ◌∙◌, inl, inr, arith}
use Rattle.std.proofs.lemmas.Bool.{cases_lt, and_right}
use Rattle.console_sets.specs.Bound.{max_consoles}
use Rattle.console_sets.proofs.Digits.{member_above}
use Rattle.orders.specs.Ranks.{between, rank}
use Rattle.orders.proofs.Lawful.{lawful_between}
use Rattle.orders.proofs.Ranked.{rank_out, ranking, rank_unread}
use Rattle.orders.proofs.ranking.ranks.Goals as goal

pub returns : goal.returns
returns g c =
    let xs = c.args.proposals.now in
    let f : ℕ → ℕ = rank (length xs) c.args.running (between g.P.Order.places xs) in
    let items = c.array_of.result in
    let whole : (i : ℕ) → slice_index items i ≡ f i = λ i.
    elim (cases_lt i max_consoles) [
      | inl l ↦ c.array_of.ensures.below f (λ a k x h. search rules) 0 i l
      | inr l ↦
          c.array_of.ensures.beyond 0 i l
          ∙ sym (rank_out (length xs) c.args.running (between g.P.Order.places xs) i
          (and_right (ltb i (length xs)) _ (member_above max_consoles c.args.running i (omega arith) l)))
    ] in
    let lawful = lawful_between g.P.Order.places
    (record { mirrored = g.met.P.Order.mirrored; onward = g.met.P.Order.onward; alike = g.met.P.Order.alike }) xs in
    record {
      each = whole;
      order = ranking (length xs) c.args.running (between g.P.Order.places xs) lawful (λ i. slice_index items i) whole;
      unread = rank_unread g.P.Order.places xs c.args.running (λ i. slice_index items i) whole;
    }

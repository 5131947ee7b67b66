use Rattle.std.proofs.Common.{◌≡◌, ℕ, ◌^◌, ◌<◌, ◌≤◌, min, true, sym, ap, ◌∙◌, inl, inr, arith}
use Rattle.std.proofs.lemmas.Bool.{cases_lt, lt-ltb}
use Rattle.console_sets.specs.Bound.{max_consoles}
use Rattle.console_sets.specs.Sets.{inside, all}
use Rattle.console_sets.proofs.Digits.{member-all, member_below, inside_from}
use Rattle.rounds.proofs.sets.is_known.Goals as goal

-- a set of the consoles that there are lies within those up to any larger number
everyone : (set n : ℕ) → set < 2 ^ max_consoles → max_consoles ≤ n → inside set (all n) ≡ true
everyone set n l h =
    inside_from set (all n) (λ c m. member-all n c ∙ lt-ltb c n (omega (arith, member_below max_consoles set c l m)))

pub returns : goal.returns
returns c =
    let n = c.args.n in
    let set = c.args.set in
    c.is_within.ensures ∙ ap (inside set) c.all_of.ensures
    ∙ elim (cases_lt n max_consoles) [
      | inl l ↦ let e : min n max_consoles ≡ n = omega arith in ap (λ (m : ℕ). inside set (all m)) e
      | inr l ↦
          let e : min n max_consoles ≡ max_consoles = omega arith in
          ap (λ (m : ℕ). inside set (all m)) e ∙ everyone set max_consoles (omega arith) (omega arith) ∙ sym (everyone set n (omega arith) l)
    ]

-- What a round asks of the back end, by whether round t + 2 is to come, is there or is past.
use Rattle.std.proofs.Common.{◌≡◌, ℕ, ◌+◌, ◌≤◌, List, map, length, take, ◌∙◌, arith}
use Rattle.std.specs.List.{range_with_len}
use Rattle.std.proofs.lemmas.List.FromFn.{fill_by_all}
use Rattle.std.proofs.lemmas.List.{get_or-take, length-take-le}
use Rattle.std.proofs.lemmas.Bool.{cond-true, cond-false, le-ltb, eq-eqb}
use Rattle.rounds.specs.Items.{at}
use Rattle.rounds.specs.Rounds.{completing}
use Rattle.rounds.specs.Checks.{start_refusal}
use Rattle.back_end.specs.Meaning.{Meaning}
use Rattle.rig.specs.declared.panel.Panel.{Panel}
use Rattle.rig.specs.Steps.{entry_list, back_refusal, told}

-- the first n items of a list, one after the other
pub taken : (xs : List ℕ) (f : ℕ → ℕ) (n : ℕ) → n ≤ length xs → ((c : ℕ) → at xs c ≡ f c) → take n xs ≡ map f (range_with_len 0 n)
taken xs f n l h =
    fill_by_all f (take n xs) n 0 (length-take-le n xs l) (λ c m. get_or-take n xs c 0 m ∙ h c)

module _ (panel : Panel) (falls : ℕ) (rows : List ℕ) (m : Meaning) where
  pub refusal_starts : panel.rounds ≡ panel.t + 1
      → back_refusal panel falls rows m ≡ start_refusal m.n m.t (completing panel.running falls) (entry_list panel falls rows)
  refusal_starts e = cond-false _ _ _ (le-ltb panel.rounds (panel.t + 1) (omega arith)) ∙ cond-true _ _ _ (eq-eqb _ _ e)

  pub told_early : panel.rounds ≤ panel.t + 1 → (c : ℕ) → told panel m c ≡ 0
  told_early l c = cond-false _ _ _ (le-ltb _ _ l)

-- The first bad one of the five fields of a rig line.
use Rattle.std.proofs.Common.{◌≡◌, ℕ, suc, Bool, true, false, cond, eqb, List, [], ◌∷◌, length, get_or, Some, None, Ok, Err, Option, Result, sym, refl, ap, ◌∙◌}
use Rattle.std.specs.Option.{is_none, unwrap_or}
use Rattle.std.proofs.lemmas.Bool.{cond-true, eq-eqb}
use Rattle.console_sets.specs.Sets.{lowest}
use Rattle.schedule.specs.declared.refusal.FileRefusal.{FileRefusal}
use Rattle.schedule.specs.declared.refusal.FileRefusal.TheVariants.{BadField}
use Rattle.schedule.specs.declared.said.ProposalKind.{ProposalKind}
use Rattle.schedule.specs.declared.said.ProposalKind.TheVariants.{Cue as OfCues}
use Rattle.schedule.specs.declared.said.BackEndKind.{BackEndKind}
use Rattle.schedule.specs.declared.said.BackEndKind.TheVariants.{Leader}
use Rattle.schedule.specs.Numbers.{number_said}
use Rattle.schedule.specs.Values.{kind_said, back_end_said}
use Rattle.schedule.specs.Said.{checked, field, rig_said}

lowest_of_five : (a b c d e : Bool) → lowest (λ i. get_or (a ∷ (b ∷ (c ∷ (d ∷ (e ∷ []))))) i false) 5 ≡ cond a 1 (cond b 2 (cond c 3 (cond d 4 (cond e 5 0))))
unfolding lowest
lowest_of_five true b c d e = refl
lowest_of_five false true c d e = refl
lowest_of_five false false true d e = refl
lowest_of_five false false false true e = refl
lowest_of_five false false false false true = refl
lowest_of_five false false false false false = refl

-- the answer by the first bad field
pub checked_five : {X : Type 0} (line : ℕ) (fs : List (List ℕ)) (x : X) (a b c d e : Bool) → length fs ≡ 5 →
    checked line fs 5 (λ i. get_or (a ∷ (b ∷ (c ∷ (d ∷ (e ∷ []))))) i false) x
    ≡ cond a (Err (BadField line 2)) (cond b (Err (BadField line 3)) (cond c (Err (BadField line 4)) (cond d (Err (BadField line 5)) (cond e (Err (BadField line 6)) (Ok x)))))
checked_five {X} line fs x a b c d e l =
    cond-true (eqb (length fs) 5) _ _ (eq-eqb (length fs) 5 l)
    ∙ ap (λ (m : ℕ). cond (eqb m 0) (Ok x) (Err (BadField line (suc m)))) (lowest_of_five a b c d e)
    ∙ places a b c d e
  where
    places : (a b c d e : Bool) → (λ (m : ℕ). cond {A = Result X FileRefusal} (eqb m 0) (Ok x) (Err (BadField line (suc m)))) (cond a 1 (cond b 2 (cond c 3 (cond d 4 (cond e 5 0)))))
        ≡ cond a (Err (BadField line 2)) (cond b (Err (BadField line 3)) (cond c (Err (BadField line 4)) (cond d (Err (BadField line 5)) (cond e (Err (BadField line 6)) (Ok x)))))
    places true b c d e = refl
    places false true c d e = refl
    places false false true d e = refl
    places false false false true e = refl
    places false false false false true = refl
    places false false false false false = refl

-- the same of what a rig line says, whose fields say these values or nothing
pub rig_is : (line : ℕ) (fs : List (List ℕ)) (n t l : Option ℕ) (p : Option ProposalKind) (b : Option BackEndKind) → 5 ≡ length fs →
    n ≡ number_said 0 255 (field fs 0) → t ≡ number_said 0 255 (field fs 1) → p ≡ kind_said (field fs 2) → b ≡ back_end_said (field fs 3) →
    l ≡ number_said 1 1000000 (field fs 4) →
    rig_said line fs ≡
    cond (is_none n) (Err (BadField line 2)) (cond (is_none t) (Err (BadField line 3)) (cond (is_none p) (Err (BadField line 4)) (cond (is_none b) (Err (BadField line 5))
    (cond (is_none l) (Err (BadField line 6))
    (Ok (record { n = unwrap_or n 0; t = unwrap_or t 0; proposals = unwrap_or p OfCues; back_end = unwrap_or b Leader; round_length = unwrap_or l 0 }))))))
rig_is line fs n t l p b five e₀ e₁ e₂ e₃ e₄ =
    checked_five line fs _ _ _ _ _ _ (sym five)
    ∙ (λ j. cond (is_none (sym e₀ j)) (Err (BadField line 2)) (cond (is_none (sym e₁ j)) (Err (BadField line 3)) (cond (is_none (sym e₂ j)) (Err (BadField line 4))
    (cond (is_none (sym e₃ j)) (Err (BadField line 5)) (cond (is_none (sym e₄ j)) (Err (BadField line 6))
    (Ok (record { n = unwrap_or (sym e₀ j) 0; t = unwrap_or (sym e₁ j) 0; proposals = unwrap_or (sym e₂ j) OfCues; back_end = unwrap_or (sym e₃ j) Leader; round_length = unwrap_or (sym e₄ j) 0 })))))))

-- where all but the length of a round are good
pub rig_bad_length : (line : ℕ) (fs : List (List ℕ)) (n t : ℕ) (p : ProposalKind) (b : BackEndKind) → 5 ≡ length fs →
    Some n ≡ number_said 0 255 (field fs 0) → Some t ≡ number_said 0 255 (field fs 1) → Some p ≡ kind_said (field fs 2) → Some b ≡ back_end_said (field fs 3) →
    None ≡ number_said 1 1000000 (field fs 4) → Err (BadField line 6) ≡ rig_said line fs
rig_bad_length line fs n t p b five e₀ e₁ e₂ e₃ e₄ = sym (rig_is line fs (Some n) (Some t) None (Some p) (Some b) five e₀ e₁ e₂ e₃ e₄)

-- Lines that are made one field after the other.
use Rattle.std.proofs.Common.{◌≡◌, ℕ, List, [], ◌∷◌, ◌++◌, sym, ap, ◌∙◌, append_assoc, add-one}
use Rattle.std.proofs.lemmas.List.{append-nil}
use Rattle.sheet.specs.Lines.{tabbed, line}

-- bytes with these fields behind
abbrev pub with_fields : List ℕ → List (List ℕ) → List ℕ
with_fields t [] = t
with_fields t (f ∷ fs) = with_fields (t ++ (9 ∷ f)) fs

with_fields_tabbed : (t : List ℕ) (fs : List (List ℕ)) → with_fields t fs ≡ t ++ tabbed fs
with_fields_tabbed t [] = sym (append-nil t)
with_fields_tabbed t (f ∷ fs) = with_fields_tabbed (t ++ (9 ∷ f)) fs ∙ append_assoc t (9 ∷ f) (tabbed fs)

pub line_with_fields : (word : List ℕ) (fs : List (List ℕ)) → line word fs ≡ with_fields word fs ++ (10 ∷ [])
unfolding line
line_with_fields word fs = sym (ap (λ (t : List ℕ). t ++ (10 ∷ [])) (with_fields_tabbed word fs) ∙ append_assoc word (tabbed fs) (10 ∷ []))

pub ruleset sewing = (line_with_fields, add-one)

-- What `try_fold` answers where its closure gives an `Option`.
use Rattle.std.proofs.Common.{◌≡◌, ℕ, ◌+◌, List, [], ◌∷◌, ◌++◌, length, drop, map, Some, None, Option, sym, refl, ap, ◌∙◌, subst, append-nil}
use Rattle.std.specs.Fn.{Called, Mut}
use Rattle.std.specs.List.{FoldsTo}
use Rattle.std.specs.ControlFlow.{continue_value}
use Rattle.std.specs.Iterator.{TryFoldTurn, TryFoldsItems}
use Rattle.std.proofs.lemmas.Iterator.{YieldsList}
use Rattle.std.proofs.lemmas.Iterator.Consumers.{YieldsList-so_far, YieldsList-turn, YieldsList-end}
use Rattle.std.proofs.lemmas.List.{drop_more, take-append-drop}

-- h of each item in turn, until it gives nothing
abbrev pub tried : {B X : Type 0} → (B → X → Option B) → B → List X → Option B
tried h a [] = Some a
tried h a (x ∷ xs) = elim (h a x) [ None ↦ None | Some b ↦ tried h b xs ]

pub tried_some : {B X : Type 0} (h : B → X → Option B) (a b : B) (x : X) (xs : List X) → h a x ≡ Some b → tried h a (x ∷ xs) ≡ tried h b xs
tried_some h a b x xs e = rw (e, tried) refl

pub tried_none : {B X : Type 0} (h : B → X → Option B) (a : B) (x : X) (xs : List X) → h a x ≡ None → tried h a (x ∷ xs) ≡ None
tried_none h a x xs e = rw (e, tried) refl

module _ {A B X F : Type 0} (g : Mut F (B × (A × Unit {0})) (Option B)) (view : A → X) (h : B → X → Option B) (f : F)
    (calls : (a : B) (x : A) (r : Option B) (q : F) → Called g f (a, (x, tt)) r q → (q ≡ f) × (r ≡ h a (view x))) where
  called : (p q : F) (a : B) (x : A) (r : Option B) → p ≡ f → Called g p (a, (x, tt)) r q → (q ≡ f) × (r ≡ h a (view x))
  called p q a x r e c = calls a x r q (subst (λ (w : F). Called g w (a, (x, tt)) r q) e c)

  -- the turns that went on
  turns : (E : Type 0) (xs : List A) (p q : F × B) → p.0 ≡ f → FoldsTo (TryFoldTurn {E = E} g (λ r c. r ≡ continue_value c)) p xs q →
      (q.0 ≡ f) × ((ys : List X) → tried h p.1 (map view xs ++ ys) ≡ tried h q.1 ys)
  turns E [] p q e d = (sym (ap (λ (t : F × B). t.0) d) ∙ e, λ ys. ap (λ (t : F × B). tried h t.1 ys) d)
  turns E (x ∷ xs) p q e (j, (v, c, on), more) =
      let k = called p.0 j.0 p.1 x v e c in
      let rest = turns E xs j q k.0 more in
      (rest.0, λ ys. tried_some h p.1 j.1 (view x) (map view xs ++ ys) (sym k.1 ∙ on) ∙ rest.1 ys)

  pub tried_from_yields_List : {S E : Type 0} {steps : S → Option A → S → Type 0} {resumes : E → Option B → Type 0} {s : S} {all : List X} (u : S) (init : B) (r : Option B) →
      ((e : E) (o : Option B) → resumes e o → o ≡ None) →
      TryFoldsItems steps g (λ r c. r ≡ continue_value c) resumes s f init r u → YieldsList steps view s all → r ≡ tried h init all
  tried_from_yields_List {E = E} {all = all} u init r ends (xs, None, f', a, (t, y, last), folds, done) e =
      let whole = YieldsList-end e xs t y None u refl last in
      let went = turns E xs (f, init) (f', a) refl folds in
      done ∙ sym (went.1 []) ∙ ap (tried h init) (append-nil (map view xs) ∙ whole.0)
  tried_from_yields_List {E = E} {all = all} u init r ends (xs, Some x, f', a, (t, y, last), folds, (v, q, w, c, stop, res)) e =
      let front = YieldsList-so_far e xs t y in
      let turn = YieldsList-turn e xs t y (Some x) u x refl last in
      let went = turns E xs (f, init) (f', a) refl folds in
      let k = called f' q a x v went.0 c in
      let n : ℕ = length xs in
      let cut : all ≡ map view xs ++ (view x ∷ drop (n + 1) all) =
      sym (take-append-drop n all) ∙ (λ j. sym front j ++ (drop_more all n (view x) turn.0 ∙ ap (λ (z : X). z ∷ drop (n + 1) all) (sym turn.1)) j) in
      ends w r res ∙ sym (ap (tried h init) cut ∙ went.1 (view x ∷ drop (n + 1) all) ∙ tried_none h a (view x) (drop (n + 1) all) (sym k.1 ∙ stop))

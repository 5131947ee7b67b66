-- Bytes cut at a separator, and the pieces that it parts them into.
use Rattle.std.proofs.Common.{◌≡◌, ℕ, suc, ◌+◌, ◌<◌, ◌≤◌, true, false, cond, eqb, ltb, ◌⊎◌, List, [], ◌∷◌, ◌++◌, length, get_or, Bor, Some, None, Option, take, drop, sym, refl, ap, ◌∙◌, inl, inr, one-add, arith}
use Rattle.std.proofs.lemmas.Bool.{cases_Bool, cond-true, cond-false, eq-eqb, ne_eqb, ltb-false}
use Rattle.std.proofs.lemmas.List.{drop_more}
use Rattle.std.specs.List.{position_or_len, position, slice_get}
use Rattle.std.specs.Option.{unwrap_or, option_map}
use Rattle.std.proofs.lemmas.Option.{unwrap_or-slice_get}
use Rattle.schedule.specs.Parts.{before, onward, onto, parted, starts, later}

-- the two parts of a cut, put together again
pub take_before : (x : ℕ) (s : List ℕ) → take (length (before x s)) s ≡ before x s
take_before x [] = refl
take_before x (b ∷ bs) =
    elim (cases_Bool (eqb b x)) [
      | inl e ↦ rw (e)
      | inr e ↦ rw (e) (ap (λ (t : List ℕ). b ∷ t) (take_before x bs))
    ]

pub drop_before : (x : ℕ) (s : List ℕ) → drop (length (before x s)) s ≡ onward x s
drop_before x [] = refl
drop_before x (b ∷ bs) =
    elim (cases_Bool (eqb b x)) [
      | inl e ↦ rw (e)
      | inr e ↦ rw (e) (drop_before x bs)
    ]

pub length_before : (x : ℕ) (s : List ℕ) → length (before x s) ≤ length s
length_before x [] = omega arith
length_before x (b ∷ bs) =
    elim (cases_Bool (eqb b x)) [
      | inl e ↦ rw (e) (omega arith)
      | inr e ↦ rw (e) (omega (arith, length_before x bs))
    ]

-- the place of the first x, or the length where there is none
pub place_before : (x : ℕ) (s : List ℕ) → position_or_len (λ b. eqb b x) s ≡ length (before x s)
place_before x [] = refl
place_before x (b ∷ bs) =
    elim (cases_Bool (eqb b x)) [
      | inl e ↦ rw (e)
      | inr e ↦ rw (e) (rw (one-add) (ap suc (place_before x bs)))
    ]

pub reach_is : (x : ℕ) (s : List ℕ) → unwrap_or (position (λ b. eqb b x) s) (length s) ≡ length (before x s)
reach_is x s =
    let l = length_before x s in
    let e = place_before x s in
    elim (cases_Bool (ltb (position_or_len (λ b. eqb b x) s) (length s))) [
      | inl t ↦ rw (t) e
      | inr f ↦ rw (f) (omega (arith, ltb-false _ _ f))
    ]

-- a piece more behind the first x for each x
later_cons : (x b : ℕ) (bs : List ℕ) → length (later x (b ∷ bs)) ≡ cond (eqb b x) (suc (length (later x bs))) (length (later x bs))
later_cons x b bs = elim (cases_Bool (eqb b x)) [ inl e ↦ rw (e) (whole (parted x bs) (some x bs)) | inr e ↦ rw (e) (kept (parted x bs)) ]
  where
    whole : (ps : List (List ℕ)) → 0 < length ps → length ps ≡ suc (length (drop 1 ps))
    whole [] l = absurd (omega arith)
    whole (p ∷ ps) l = refl

    kept : (ps : List (List ℕ)) → length (drop 1 (onto b ps)) ≡ length (drop 1 ps)
    kept [] = refl
    kept (p ∷ ps) = refl

    more : (c : ℕ) (ps : List (List ℕ)) → 0 < length ps → 0 < length (onto c ps)
    more c [] l = l
    more c (p ∷ ps) l = omega arith

    some : (x : ℕ) (s : List ℕ) → 0 < length (parted x s)
    some x [] = omega arith
    some x (c ∷ s) = elim (cases_Bool (eqb c x)) [ inl e ↦ rw (e) (omega arith) | inr e ↦ rw (e) (more c (parted x s) (some x s)) ]

-- the steps of a walk that counts them
pub later_here : (x : ℕ) (s : List ℕ) (i : ℕ) → i < length s → get_or s i 0 ≡ x → length (later x (drop i s)) ≡ suc (length (later x (drop (i + 1) s)))
later_here x s i l e = ap (λ (t : List ℕ). length (later x t)) (drop_more s i 0 l) ∙ later_cons x (get_or s i 0) (drop (i + 1) s) ∙ cond-true (eqb (get_or s i 0) x) _ _ (eq-eqb (get_or s i 0) x e)

pub later_past : (x : ℕ) (s : List ℕ) (i : ℕ) → i < length s → (get_or s i 0 ≡ x → ⊥) → length (later x (drop i s)) ≡ length (later x (drop (i + 1) s))
later_past x s i l ne = ap (λ (t : List ℕ). length (later x t)) (drop_more s i 0 l) ∙ later_cons x (get_or s i 0) (drop (i + 1) s) ∙ cond-false (eqb (get_or s i 0) x) _ _ (ne_eqb (get_or s i 0) x ne)

-- there are no more of them than bytes
pub length_later : (x : ℕ) (s : List ℕ) → length (later x s) ≤ length s
length_later x [] = omega arith
length_later x (b ∷ bs) = omega (arith, length_later x bs, more)
  where
    more : length (later x (b ∷ bs)) ≤ suc (length (later x bs))
    more = elim (cases_Bool (eqb b x)) [
      | inl e ↦ omega (arith, later_cons x b bs ∙ cond-true (eqb b x) _ _ e)
      | inr e ↦ omega (arith, later_cons x b bs ∙ cond-false (eqb b x) _ _ e)
    ]

pub before_onward : (x : ℕ) (s : List ℕ) → before x s ++ onward x s ≡ s
before_onward x [] = refl
before_onward x (b ∷ bs) =
    elim (cases_Bool (eqb b x)) [
      | inl e ↦ rw (e)
      | inr e ↦ rw (e) (ap (λ (t : List ℕ). b ∷ t) (before_onward x bs))
    ]

pub before_twice : (x : ℕ) (s : List ℕ) → before x (before x s) ≡ before x s
before_twice x [] = refl
before_twice x (b ∷ bs) =
    elim (cases_Bool (eqb b x)) [
      | inl e ↦ rw (e)
      | inr e ↦ rw (e) (rw (e) (ap (λ (t : List ℕ). b ∷ t) (before_twice x bs)))
    ]

-- bytes without x, and then bytes that are none or begin with x: the cut falls between them
pub cut_at : (x : ℕ) (s t : List ℕ) → before x s ≡ s → starts x t ≡ true → (before x (s ++ t) ≡ s) × (onward x (s ++ t) ≡ t)
cut_at x [] [] e h = (refl, refl)
cut_at x [] (b ∷ bs) e h = (cond-true (eqb b x) _ _ h, cond-true (eqb b x) _ _ h)
cut_at x (b ∷ bs) t e h = go (λ f. cut_at x bs t f h) (cases_Bool (eqb b x))
  where
    go : (before x bs ≡ bs → (before x (bs ++ t) ≡ bs) × (onward x (bs ++ t) ≡ t)) →
        (eqb b x ≡ true) ⊎ (eqb b x ≡ false) → (before x (b ∷ (bs ++ t)) ≡ b ∷ bs) × (onward x (b ∷ (bs ++ t)) ≡ t)
    go more (inl q) = absurd (let z : ◌≡◌ {A = ℕ} 0 (suc (length bs)) = ap length (sym (cond-true (eqb b x) _ _ q) ∙ e) in omega arith)
    go more (inr q) =
        let inner = more (ap (drop 1) (sym (cond-false (eqb b x) _ _ q) ∙ e)) in
        (cond-false (eqb b x) _ _ q ∙ ap (λ (u : List ℕ). b ∷ u) inner.0, cond-false (eqb b x) _ _ q ∙ inner.1)

pub starts_onward : (x : ℕ) (s : List ℕ) → starts x (onward x s) ≡ true
starts_onward x [] = refl
starts_onward x (b ∷ bs) =
    elim (cases_Bool (eqb b x)) [
      | inl e ↦ rw (e) e
      | inr e ↦ rw (e) (starts_onward x bs)
    ]

-- the pieces are the bytes before the first x and the pieces behind it
pub parted_cut : (x : ℕ) (s : List ℕ) → parted x s ≡ before x s ∷ later x (onward x s)
parted_cut x [] = refl
parted_cut x (b ∷ bs) =
    elim (cases_Bool (eqb b x)) [
      | inl e ↦ rw (e) (rw (e) refl)
      | inr e ↦ rw (e) (ap (onto b) (parted_cut x bs))
    ]

-- the first of the pieces that have an x before each, and the others
pub later_tabbed : (x : ℕ) (s : List ℕ) (b : ℕ) (rest front others : List ℕ) → starts x s ≡ true → s ≡ b ∷ rest → front ≡ before x rest → others ≡ onward x rest →
    later x s ≡ front ∷ later x others
later_tabbed x s b rest front others h e f o =
    let t : eqb b x ≡ true = sym (ap (starts x) e) ∙ h in
    ap (later x) e ∙ ap (λ (ps : List (List ℕ)). drop 1 ps) (cond-true (eqb b x) _ _ t) ∙ parted_cut x rest ∙ (λ j. sym f j ∷ later x (sym o j))

-- the piece of an index, empty where there is none
pub at_index : (ps : List (List ℕ)) (i : ℕ) (r : Option (Bor (List ℕ))) (o none : Bor (List ℕ)) → option_map (λ x. x.now) r ≡ slice_get ps i → o ≡ unwrap_or r none → none.now ≡ [] →
    o.now ≡ get_or ps i []
at_index ps i None o none e f z = ap (λ (b : Bor (List ℕ)). b.now) f ∙ z ∙ sym (ap (λ (p : Option (List ℕ)). unwrap_or p []) (sym e)) ∙ unwrap_or-slice_get ps i []
at_index ps i (Some x) o none e f z = ap (λ (b : Bor (List ℕ)). b.now) f ∙ ap (λ (p : Option (List ℕ)). unwrap_or p []) e ∙ unwrap_or-slice_get ps i []

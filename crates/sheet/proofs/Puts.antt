-- A buffer with bytes put into it.
use Rattle.std.proofs.Common.{◌≡◌, ℕ, ◌+◌, ◌≤◌, List, [], ◌++◌, length, take, drop, sym, ap, ◌∙◌, append_assoc, add-zero, add_assoc, arith}
use Rattle.std.proofs.lemmas.List.{length-append, length-take-le, length-drop, take_at, take-append-drop, drop_at, drop-drop}
use Rattle.sheet.specs.Printing.{put}

pub put_none : (xs : List ℕ) (a : ℕ) → put xs a [] ≡ xs
put_none xs a = ap (λ (m : ℕ). take a xs ++ drop m xs) (add-zero a) ∙ take-append-drop a xs

module _ (xs : List ℕ) (a : ℕ) (bs : List ℕ) (l : a + length bs ≤ length xs) where
  front : length (take a xs ++ bs) ≡ a + length bs
  front = omega (arith, length-append (take a xs) bs, length-take-le a xs (omega arith))

  regrouped : put xs a bs ≡ (take a xs ++ bs) ++ drop (a + length bs) xs
  regrouped = sym (append_assoc (take a xs) bs (drop (a + length bs) xs))

  pub length-put : length (put xs a bs) ≡ length xs
  length-put =
      ap length regrouped ∙ omega (arith, length-append (take a xs ++ bs) (drop (a + length bs) xs), front, length-drop (a + length bs) xs)

  pub take_put : take (a + length bs) (put xs a bs) ≡ take a xs ++ bs
  take_put = ap (take (a + length bs)) regrouped ∙ take_at (take a xs ++ bs) (drop (a + length bs) xs) (a + length bs) front

  -- what stands behind is as it was
  pub drop-put : (k : ℕ) → drop (a + length bs + k) (put xs a bs) ≡ drop (a + length bs + k) xs
  drop-put k =
      sym (drop-drop k (a + length bs) (put xs a bs))
      ∙ ap (drop k) (ap (drop (a + length bs)) regrouped ∙ drop_at (take a xs ++ bs) (drop (a + length bs) xs) (a + length bs) front)
      ∙ drop-drop k (a + length bs) xs

  -- more bytes behind
  pub put-put : (cs : List ℕ) → put (put xs a bs) (a + length bs) cs ≡ put xs a (bs ++ cs)
  put-put cs =
      (λ j. take_put j ++ (cs ++ drop-put (length cs) j))
      ∙ append_assoc (take a xs) bs (cs ++ drop (a + length bs + length cs) xs)
      ∙ ap (λ (t : List ℕ). take a xs ++ t) (sym (append_assoc bs cs (drop (a + length bs + length cs) xs)))
      ∙ ap (λ (m : ℕ). take a xs ++ ((bs ++ cs) ++ drop m xs)) (add_assoc a (length bs) (length cs) ∙ ap (λ (m : ℕ). a + m) (sym (length-append bs cs)))

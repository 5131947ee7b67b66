-- The console lines of a page: those from index i on.
use Rattle.std.proofs.Common.{◌≡◌, ℕ, suc, ◌+◌, ◌-◌, ◌<◌, ◌≤◌, List, [], ◌∷◌, map, length, get_or, take, ap, arith}
use Rattle.std.specs.List.{range_with_len}
use Rattle.front.specs.declared.consoles.Console.{Console}
use Rattle.std.proofs.lemmas.List.{get_or-take, length-take}
use Rattle.front.specs.Consoles.{state_of, fresh}
use Rattle.sheet.specs.Lines.{console_line}

-- the line of index c, where a round lasts so long
abbrev pub row : ℕ → List Console → ℕ → List ℕ
row round consoles c = console_line round c (state_of consoles c)

-- those of the n consoles from index i on
abbrev pub rows_from : ℕ → List Console → ℕ → ℕ → List (List ℕ)
rows_from round consoles n i = map (row round consoles) (range_with_len i (n - i))

-- the line of one of the first n consoles
pub row_of : (round : ℕ) (consoles : List Console) (n i : ℕ) → i < length (take n consoles) →
    (i < n) × (console_line round i (get_or (take n consoles) i (fresh 0)) ≡ row round consoles i)
row_of round consoles n i h =
    let l : i < n = omega (arith, length-take n consoles) in
    (l, ap (console_line round i) (get_or-take n consoles i (fresh 0) l))

module _ (round : ℕ) (consoles : List Console) (n : ℕ) where
  pub rows_all : rows_from round consoles n 0 ≡ map (row round consoles) (range_with_len 0 n)
  rows_all =
      let k : n - 0 ≡ n = omega arith in
      ap (λ (k : ℕ). map (row round consoles) (range_with_len 0 k)) k

  pub rows_next : (i : ℕ) → i < n → rows_from round consoles n i ≡ row round consoles i ∷ rows_from round consoles n (i + 1)
  rows_next i l =
      let k : n - i ≡ suc (n - (i + 1)) = omega arith in
      ap (λ (k : ℕ). map (row round consoles) (range_with_len i k)) k

  pub rows_none : (i : ℕ) → n ≤ i → rows_from round consoles n i ≡ []
  rows_none i l =
      let k : n - i ≡ 0 = omega arith in
      ap (λ (k : ℕ). map (row round consoles) (range_with_len i k)) k

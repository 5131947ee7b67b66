-- How lines go into a buffer of `cap` bytes of which the first `len` are used.
use Rattle.std.specs.Prelude.{ℕ, ◌+◌, Bool, true, if◌then◌else◌, ◌&&◌, List, [], ◌∷◌, ◌++◌, length, take, drop, Ok, Err, Result, nat_le}
use Rattle.sheet.specs.declared.printer.NoRoom.{NoRoom}

-- the lines before the first that does not fit
abbrev pub fit : ℕ → ℕ → List (List ℕ) → List ℕ
fit cap len [] = []
fit cap len (l ∷ ls) = if nat_le (len + length l) cap then l ++ fit cap (len + length l) ls else []

-- whether all fit
abbrev pub all_fit : ℕ → ℕ → List (List ℕ) → Bool
all_fit cap len [] = true
all_fit cap len (l ∷ ls) = nat_le (len + length l) cap && all_fit cap (len + length l) ls

-- the buffer with these bytes behind the first `len`
abbrev pub put : List ℕ → ℕ → List ℕ → List ℕ
put xs len bs = take len xs ++ (bs ++ drop (len + length bs) xs)

-- how many bytes are used then
abbrev pub print_answer : ℕ → ℕ → List (List ℕ) → Result ℕ NoRoom
print_answer cap len ls =
    if all_fit cap len ls then Ok (len + length (fit cap len ls)) else Err (record { len = len + length (fit cap len ls) })

-- what is answered, what is used and what is left when these lines are printed and then `number` is answered, 18 where one does not fit
abbrev pub final : List ℕ → ℕ → List (List ℕ) → ℕ → (ℕ × ℕ) × List ℕ
final xs len ls number =
    ((if all_fit (length xs) len ls then number else 18, len + length (fit (length xs) len ls)), put xs len (fit (length xs) len ls))

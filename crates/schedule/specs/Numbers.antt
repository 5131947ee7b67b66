-- What a field says as a number or as a set of consoles, and how either is written.
use Rattle.std.specs.Prelude.{ℕ, ◌+◌, ◌-◌, ◌*◌, ◌^◌, Bool, false, if◌then◌else◌, not, ◌&&◌, ◌||◌, List, [], ◌∷◌, map, length, Some, None, Option, ◌==◌, nat_le, nat_lt}
use Rattle.std.specs.List.{list_all}

-- the number that digits write in a base: the sum of each digit times the base to the power of its place, the last place being 0
abbrev pub placed : ℕ → List ℕ → ℕ
placed base [] = 0
placed base (d ∷ ds) = d * base ^ length ds + placed base ds

-- the digit that a byte stands for, `0` to `9` and `a` to `f`
abbrev pub digit : ℕ → ℕ
digit b = if nat_le b 57 then b - 48 else b - 87

-- whether a byte is one of those and its digit is one of the base
abbrev pub is_digit : ℕ → ℕ → Bool
is_digit base b = ((nat_le 48 b && nat_le b 57) || (nat_le 97 b && nat_le b 102)) && nat_lt (digit b) base

-- the number that bytes write in a base
abbrev pub value : ℕ → List ℕ → ℕ
value base bs = placed base (map digit bs)

-- whether bytes are a number in decimal: digits, the first of them no `0` unless it stands alone
abbrev pub is_decimal : List ℕ → Bool
is_decimal [] = false
is_decimal (b ∷ []) = is_digit 10 b
is_decimal (b ∷ (d ∷ bs)) = not (b == 48) && list_all (is_digit 10) (b ∷ (d ∷ bs))

-- what a field says as a number from least to most
abbrev pub number_said : ℕ → ℕ → List ℕ → Option ℕ
number_said least most bs = if is_decimal bs && (nat_le least (value 10 bs) && nat_le (value 10 bs) most) then Some (value 10 bs) else None

-- what a field of so many hexadecimal digits says as a set of consoles
abbrev pub digits_said : ℕ → List ℕ → Option ℕ
digits_said count bs = if length bs == count && list_all (is_digit 16) bs then Some (value 16 bs) else None

-- a set has four digits
abbrev pub set_digits : ℕ
set_digits = 4

-- what a field says as a set of consoles
abbrev pub set_said : List ℕ → Option ℕ
set_said bs = digits_said set_digits bs

-- Sets of consoles, as tests of indices and as numbers, so that contracts can say which consoles and how many. No width is fixed here.
-- Index c, from 0, stands for the console c + 1, and in a number for the binary digit worth 2 ^ c.
use Rattle.std.specs.Prelude.{ℕ, zero, suc, ◌+◌, ◌-◌, ◌*◌, ◌/◌, ◌%◌, ◌^◌, Bool, true, false, cond, Some, None, Option, ◌==◌, bit_and, bit_or, bit_xor}

-- a test as a number: 1 where it passes
abbrev pub one : Bool → ℕ
one true = 1
one false = 0

-- how many indices below n pass the test p
unfoldable pub count : (ℕ → Bool) → ℕ → ℕ
count p zero = 0
count p (suc n) = one (p n) + count p n

-- the number of the lowest console up to n whose index passes the test p, or 0 if none does
unfoldable pub lowest : (ℕ → Bool) → ℕ → ℕ
lowest p zero = 0
lowest p (suc n) = cond (lowest p n == 0) (cond (p n) (suc n) 0) (lowest p n)

-- a console's number where 0 stands for none, as an Option
abbrev pub console_of : ℕ → Option ℕ
console_of number = cond (number == 0) None (Some number)

-- whether the set s has the member c
abbrev pub member : ℕ → ℕ → Bool
member s c = s / 2 ^ c % 2 == 1

-- the set of exactly the indices below n that pass the test p
unfoldable pub set_of : (ℕ → Bool) → ℕ → ℕ
set_of p zero = 0
set_of p (suc n) = one (p n) * 2 ^ n + set_of p n

-- ---- sets by their digits; the laws of `Membership` say which members each has

-- the set of the consoles 1 to n
abbrev pub all : ℕ → ℕ
all n = 2 ^ n - 1

-- whether every member of a is a member of b
abbrev pub inside : ℕ → ℕ → Bool
inside a b = bit_and a b == a

-- the members of a or of b
abbrev pub union : ℕ → ℕ → ℕ
union a b = bit_or a b

-- the members of a that are not members of b
abbrev pub without : ℕ → ℕ → ℕ
without a b = bit_xor a (bit_and a b)

-- s with one more member, c
abbrev pub joined : ℕ → ℕ → ℕ
joined s c = bit_or s (2 ^ c)

-- The largest of some numbers, one for each index.
use Rattle.std.specs.Prelude.{ℕ, zero, suc, max}

-- the largest of f 0 to f (n - 1), or 0 for none
unfoldable pub largest : (ℕ → ℕ) → ℕ → ℕ
largest f zero = 0
largest f (suc n) = max (largest f n) (f n)

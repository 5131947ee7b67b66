-- What is said of a closure that is asked of one console after the other, by index.
use Rattle.std.specs.Prelude.{◌≡◌, ℕ, ◌<◌}

-- at each index below n, of the results that a call may give only that of f
abbrev pub Computes : {A : Type 0} → ℕ → (ℕ → A → Type 0) → (ℕ → A) → Type 0
Computes n gives f = (c : ℕ) → c < n → (x : _) → gives c x → x ≡ f c

-- Lists of one item again and again.
use Rattle.std.proofs.Common.{◌≡◌, ℕ, get_or, replicate, inl, inr, arith}
use Rattle.std.proofs.lemmas.List.{get_or-replicate, get_or_past, length-replicate}
use Rattle.std.proofs.lemmas.Bool.{cases_lt}

-- every item of a list of one item is that
pub blank : {A : Type 0} (n c : ℕ) (z : A) → get_or (replicate n z) c z ≡ z
blank n c z =
    elim (cases_lt c n) [
      | inl l ↦ get_or-replicate n c z z l
      | inr l ↦ get_or_past (replicate n z) c z (omega (arith, length-replicate n z))
    ]

-- Arrays with one item for each console, read at every index.
use Rattle.std.proofs.Common.{◌≡◌, ℕ, ◌<◌, ◌≤◌, List, get_or, sym, ◌∙◌, inl, inr}
use Rattle.std.proofs.lemmas.Bool.{cases_lt}
use Rattle.console_sets.specs.Bound.{max_consoles}

-- where beyond the last console f gives what a read beyond the end gives
pub everywhere : {A : Type 0} (xs : List A) (f : ℕ → A) (blank : A) → ((c : ℕ) → c < max_consoles → get_or xs c blank ≡ f c)
    → ((c : ℕ) → max_consoles ≤ c → get_or xs c blank ≡ blank) → ((c : ℕ) → max_consoles ≤ c → f c ≡ blank) → (c : ℕ) → get_or xs c blank ≡ f c
everywhere xs f blank below beyond past c = elim (cases_lt c max_consoles) [ inl l ↦ below c l | inr l ↦ beyond c l ∙ sym (past c l) ]

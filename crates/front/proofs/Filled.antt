-- Arrays of what each console has, where a round changes only who completes it.
use Rattle.std.proofs.Common.{◌≡◌, ℕ, ◌^◌, ◌<◌, ◌≤◌, cond, List, length, get_or, ◌∙◌, arith}
use Rattle.std.proofs.lemmas.List.{get_or_past}
use Rattle.std.proofs.lemmas.Bool.{cond-false}
use Rattle.console_sets.specs.Bound.{max_consoles}
use Rattle.console_sets.specs.Sets.{member}
use Rattle.console_sets.proofs.Digits.{member_above}
use Rattle.console_sets.proofs.Everywhere.{everywhere}
use Rattle.front.specs.declared.consoles.Console.{Console}
use Rattle.front.specs.Consoles.{State, fresh, state_of}

-- beyond the bound nobody is in a set, and lists are blank
pub outside : {A : Type 0} (m set c : ℕ) (x y : A) → set < 2 ^ m → m ≤ c → cond (member set c) x y ≡ y
outside m set c x y l h = cond-false (member set c) x y (member_above m set c l h)

pub blank_beyond : {A : Type 0} (m : ℕ) (list : List A) (blank : A) (c : ℕ) → length list ≡ m → m ≤ c → get_or list c blank ≡ blank
blank_beyond m list blank c e h = get_or_past list c blank (omega arith)

-- where each console has what a round makes of who completes it, and what it had otherwise, none beyond the last has anything
pub each_state : (xs had : List Console) (completing : ℕ) (made : State) → completing < 2 ^ max_consoles → length had ≡ max_consoles
    → ((c : ℕ) → c < max_consoles → state_of xs c ≡ cond (member completing c) (made c) (state_of had c))
    → ((c : ℕ) → max_consoles ≤ c → state_of xs c ≡ fresh 0) → (c : ℕ) → state_of xs c ≡ cond (member completing c) (made c) (state_of had c)
each_state xs had completing made l e below beyond =
    everywhere xs (λ c. cond (member completing c) (made c) (state_of had c)) (fresh 0) below beyond
    (λ c h. outside max_consoles completing c (made c) (state_of had c) l h ∙ blank_beyond max_consoles had (fresh 0) c e h)

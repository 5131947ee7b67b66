-- Only the verdicts of consoles that there are matter to a round.
use Rattle.std.proofs.Common.{◌≡◌, ℕ, ◌+◌, ◌^◌, ◌<◌, Bool, true, false, cond, leb, List, sym, refl, ap, ◌∙◌, inl, inr}
use Rattle.std.proofs.lemmas.Bool.{cases_lt}
use Rattle.console_sets.specs.Bound.{max_consoles}
use Rattle.console_sets.specs.Sets.{member}
use Rattle.rounds.specs.Items.{at}
use Rattle.front.specs.Consoles.{State, state_of}
use Rattle.front.specs.Runs as front
use Rattle.front.proofs.Filled.{outside}
use Rattle.rig.specs.declared.panel.Panel.{Panel}
use Rattle.rig.specs.Later.{later, after_later}
use Rattle.rig.specs.Steps.{opening_of, after_round}

later_alike : (n k completing : ℕ) (rows : List ℕ) (v w : ℕ → ℕ) (s : State) → completing < 2 ^ max_consoles
    → ((c : ℕ) → c < max_consoles → v c ≡ w c) → (c : ℕ) → after_later n k completing rows v s c ≡ after_later n k completing rows w s c
unfolding after_later
later_alike n k completing rows v w s few h c =
    elim (cases_lt c max_consoles) [
      | inl l ↦ ap (λ (x : ℕ). cond (member completing c) (later n k (at rows c) x s c) (s c)) (h c l)
      | inr l ↦ outside max_consoles completing c _ (s c) few l ∙ sym (outside max_consoles completing c _ (s c) few l)
    ]

either_way : (b : Bool) (f g h : State) (c : ℕ) → g c ≡ h c → cond b f g c ≡ cond b f h c
either_way true f g h c e = refl
either_way false f g h c e = e

pub round_alike : (panel : Panel) (k completing : ℕ) (rows : List ℕ) (v w : ℕ → ℕ) → completing < 2 ^ max_consoles
    → ((c : ℕ) → c < max_consoles → v c ≡ w c) → (c : ℕ) → after_round panel k completing rows v c ≡ after_round panel k completing rows w c
round_alike panel k completing rows v w few h c =
    let s = state_of panel.consoles in
    either_way (leb k (panel.t + 2)) (front.after (opening_of panel) k completing rows s) (after_later panel.n k completing rows v s)
    (after_later panel.n k completing rows w s) c (later_alike panel.n k completing rows v w s few h c)

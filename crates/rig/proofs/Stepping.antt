-- One call of any kind, from what press, round and close say.
use Rattle.std.proofs.Common.{◌≡◌, ℕ, List, Some, None, Ok, Err, Option, Result, sym, ap, subst, MatchResult}
use Rattle.std.specs.Result.{result_err}
use Rattle.std.specs.declared.cmp.Ordering.{Ordering}
use Rattle.rounds.specs.Refusals.{answer, Answers}
use Rattle.rounds.proofs.Accepted.{accepted}
use Rattle.rounds.specs.declared.Refusal.{Refusal}
use Rattle.back_end.specs.Meaning.{Meaning}
use Rattle.rig.specs.declared.page.End.{End}
use Rattle.rig.specs.declared.rig.Rig.{Rig}
use Rattle.rig.specs.Shows.{Asked, press, round, close}
use Rattle.rig.specs.Steps.{press_refusal, turn_refusal, close_refusal}
use Rattle.rig.specs.Calls.{PressLeaves, RoundLeaves, CloseLeaves, DoneBy}

-- an answer that is an error gives the refusal
refused_by : (o : Option Refusal) (e : Refusal) → Err e ≡ answer o → o ≡ Some e
refused_by None e h = cc
refused_by (Some x) e h = cc

-- the same of an equal call and an equal answer
pub moved : {B : Type 0} (meaning : B → Meaning) (rig rig' : Rig B) {call call' : Asked} {x y : Option Refusal} → call ≡ call' → x ≡ y
    → DoneBy meaning call' y rig rig' → DoneBy meaning call x rig rig'
moved meaning rig rig' {call} {call'} {x} {y} e f h =
    subst (λ (a : Asked). DoneBy meaning a x rig rig') (sym e) (subst (λ (o : Option Refusal). DoneBy meaning call' o rig rig') (sym f) h)

module _ {B : Type 0} (meaning : B → Meaning) (rig rig' : Rig B) where
  -- the very same rig has the same panel, book and meaning
  kept : rig' ≡ rig → (rig'.panel ≡ rig.panel) × (rig'.book ≡ rig.book) × (meaning rig'.back ≡ meaning rig.back)
  kept e = (ap (λ (x : Rig B). x.panel) e, ap (λ (x : Rig B). x.book) e, ap (λ (x : Rig B). meaning x.back) e)

  pub press_done : (count : ℕ) (place : ℕ → ℕ → Ordering) → press_refusal rig.panel rig.book count ≡ None → PressLeaves place rig rig'
      → DoneBy meaning (press count place) None rig rig'
  press_done count place e h = record { answered = sym e; left = record { pressed = h.pressed; same_book = h.same_book; same_back = ap meaning h.same_back } }

  pub round_done : (number shown falls : ℕ) (rows : List ℕ) (r : Result (Unit {0}) Refusal) → r ≡ answer (turn_refusal rig.panel (meaning rig.back) number shown falls rows)
      → MatchResult r (λ _. RoundLeaves meaning falls rows rig rig') (λ _. rig' ≡ rig) → DoneBy meaning (round number shown (record { falls = falls; rows = rows })) (result_err r) rig rig'
  round_done number shown falls rows (Ok u) e h = record { answered = sym (accepted _ e); left = h }
  round_done number shown falls rows (Err x) e h = record { answered = sym (refused_by _ x e); left = kept h }

  pub close_done : (number shown : ℕ) (r : Result End Refusal) (P : End → Type 0) → Answers r (close_refusal rig.panel number shown) P
      → MatchResult r (λ _. CloseLeaves rig rig') (λ _. rig' ≡ rig) → DoneBy meaning (close number shown) (result_err r) rig rig'
  close_done number shown (Ok x) P e h = record { answered = sym e.0; left = record { closed = h.closed; same_back = ap meaning h.same_back } }
  close_done number shown (Err x) P e h = record { answered = sym e; left = kept h }

-- Presses whose rounds were accepted and whose verdicts a lawful back end gave, and their first rounds.
use Rattle.std.proofs.Common.{◌≡◌, ℕ, zero, suc, ◌+◌, ◌<◌, ◌≤◌, leb, ◌≢◌, List, [], ◌∷◌, length, drop, None, sym, refl, ap, ◌∙◌, arith}
use lib.ListN.{length-map}
use Rattle.std.proofs.lemmas.Bool.{cond-true, cond-false, le-leb, lt-leb}
use Rattle.rounds.specs.Checks.{round_refusal}
use Rattle.back_end.specs.Meaning.{Meaning}
use Rattle.back_end.specs.Laws.{Agrees, Settles}
use Rattle.front.specs.Runs.{Opening, running, Sound as Opened, Accepted}
use Rattle.front.specs.Runs as front
use Rattle.front.proofs.Steps.{undecided}
use Rattle.rig.specs.Later.{after_later}
use Rattle.rig.specs.Presses.{Played, rounds_of, state, verdicts_of, Meant}

-- one round p after the rounds ps
pub record Step (bound : ℕ) (o : Opening) (ps : List Played) (p : Played) : Type 0 where
  pub accepted : round_refusal o.n o.t (running o (rounds_of ps)) (length ps) p.round.falls p.round.rows ≡ None
  -- up to round t + 2 there are no verdicts
  pub silent : length ps ≤ o.t + 1 → (c : ℕ) → p.verdicts c ≡ 0
  -- after it they are those of a back end that keeps its laws, and stay
  pub voiced : o.t + 1 < length ps → (m : Meaning) × Meant o (p ∷ ps) m × Agrees m × Settles bound m
  pub keeps : o.t + 1 < length ps → (c : ℕ) → verdicts_of ps c ≢ 0 → p.verdicts c ≡ verdicts_of ps c
  -- only the n consoles have one
  pub outside : (c : ℕ) → o.n ≤ c → p.verdicts c ≡ 0

-- such rounds, the latest first
abbrev pub Good : ℕ → Opening → List Played → Type 0
Good bound o [] = Unit {0}
Good bound o (p ∷ ps) = Good bound o ps × Step bound o ps p

pub none_outside : (bound : ℕ) (o : Opening) (ps : List Played) → Good bound o ps → (c : ℕ) → o.n ≤ c → verdicts_of ps c ≡ 0
none_outside bound o [] good c l = refl
none_outside bound o (p ∷ ps) good c l = good.1.outside c l

-- ---- the same rounds without verdicts, as the front has them

pub same_length : (ps : List Played) → length (rounds_of ps) ≡ length ps
same_length ps = length-map ps (λ p. p.round)

module _ (o : Opening) where
  pub accepted_rounds : (bound : ℕ) (ps : List Played) → Good bound o ps → Accepted o (rounds_of ps)
  accepted_rounds bound [] good = tt
  accepted_rounds bound (p ∷ ps) good = (
    accepted_rounds bound ps good.0,
    ap (λ (k : ℕ). round_refusal o.n o.t (running o (rounds_of ps)) k p.round.falls p.round.rows) (same_length ps) ∙ good.1.accepted,
  )

  -- up to round t + 2 each console has what the front gives it
  pub front_state : (ps : List Played) → length ps ≤ o.t + 2 → state o ps ≡ front.state o (rounds_of ps)
  front_state [] l = refl
  front_state (p ∷ ps) l =
      let before = front_state ps (omega arith) in
      cond-true (leb (suc (length ps)) (o.t + 2)) _ _ (le-leb (suc (length ps)) (o.t + 2) l)
      ∙ (λ j. front.after o (suc (sym (same_length ps) j)) (running o (rounds_of (p ∷ ps))) p.round.rows (before j))

  -- then relay and verdicts
  pub later_state : (p : Played) (ps : List Played) → o.t + 2 ≤ length ps
      → state o (p ∷ ps) ≡ after_later o.n (suc (length ps)) (running o (rounds_of (p ∷ ps))) p.round.rows p.verdicts (state o ps)
  later_state p ps l = cond-false (leb (suc (length ps)) (o.t + 2)) _ _ (lt-leb (suc (length ps)) (o.t + 2) (omega arith))

  -- nobody has decided before round t + 2
  pub none_yet : Opened o → (ps : List Played) → length ps ≤ o.t + 1 → (c : ℕ) → (state o ps c).decision ≡ 0
  none_yet opens ps l c =
      (λ j. (front_state ps (omega arith) j c).decision) ∙ undecided o opens (rounds_of ps) (omega (arith, same_length ps)) c

-- ---- the first rounds

-- the rounds after the first ones
pub data Since (first : List Played) : List Played → Type 0 where
  now : Since first first
  later : {ps : List Played} (p : Played) → Since first ps → Since first (p ∷ ps)

pub since_drop : (k : ℕ) (ps : List Played) → Since (drop k ps) ps
since_drop zero ps = now
since_drop (suc k) [] = now
since_drop (suc k) (p ∷ ps) = later p (since_drop k ps)

pub longer : {first ps : List Played} → Since first ps → length first ≤ length ps
longer now = omega arith
longer (later p since) = omega (arith, longer since)

pub good_first : (bound : ℕ) (o : Opening) {first ps : List Played} → Since first ps → Good bound o ps → Good bound o first
good_first bound o now good = good
good_first bound o (later p since) good = good_first bound o since good.0

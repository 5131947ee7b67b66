-- The ones that are counted are the votes.
use Rattle.std.proofs.Common.{◌≡◌, ℕ, suc, ◌+◌, ◌^◌, ◌<◌, ◌≤◌, min, Bool, true, ◌&&◌, eqb, List, sym, refl, ap, ◌∙◌, arith}
use lib.Bits.{bit_and, and_le_r}
use lib.Count.{ones}
use Rattle.std.proofs.lemmas.Bool.{and_parts, and_from, lt-ltb, eqb-true, eq-eqb}
use Rattle.console_sets.specs.Bound.{max_consoles}
use Rattle.console_sets.specs.Sets.{count, member, set_of}
use Rattle.console_sets.proofs.Counting.{count_same, count_mono, count_and, count_apart, count_pos, member_of_count}
use Rattle.console_sets.proofs.Digits.{member_and, ones-count}
use Rattle.console_sets.proofs.SetOf.{set_of_lt, member-set_of}
use Rattle.rounds.specs.Items.{at}
use Rattle.back_end.specs.Votes.{backing, votes, common, Backers}

pub votes_are : (n row : ℕ) (authors sets : List ℕ) → n ≤ max_consoles → Backers n authors sets
    → (a : ℕ) → a < n → common row sets a ≡ votes n row authors (suc a)
votes_are n row authors sets few is a l =
    let has : ℕ → Bool = λ d. eqb (at authors d) (suc a) in
    let few_is : min n max_consoles ≡ n = omega arith in
    let here : at sets a ≡ set_of has n = is a (omega arith) ∙ ap (set_of has) few_is in
    let small : bit_and row (set_of has n) < 2 ^ n = omega (arith, and_le_r row (set_of has n), set_of_lt has n) in
    ap (λ (s : ℕ). ones (bit_and row s)) here ∙ ones-count n (bit_and row (set_of has n)) small
    ∙ count_same (member (bit_and row (set_of has n))) (λ d. member row d && has d) n
    (λ d k. member_and row (set_of has n) d ∙ ap (λ (b : Bool). member row d && b) (member-set_of has n d ∙ ap (λ (b : Bool). b && has d) (lt-ltb d n k)))

module _ (n : ℕ) (authors : List ℕ) where
  -- who has an author, where some have it
  pub backer : (v : ℕ) → 0 < backing n authors v → (d : ℕ) × (d < n) × (at authors d ≡ v)
  backer v l =
      let m = member_of_count (λ d. eqb (at authors d) v) n l in
      (m.0, m.1, eqb-true (at authors m.0) v m.2)

  -- who has it backs it
  pub backed : (d : ℕ) → d < n → 0 < backing n authors (at authors d)
  backed d l = count_pos (λ e. eqb (at authors e) (at authors d)) n d l (eq-eqb (at authors d) (at authors d) refl)

  module _ (row : ℕ) where
    -- who in the row has an author, where some there have it
    pub voter : (v : ℕ) → 0 < votes n row authors v → (d : ℕ) × (d < n) × (member row d ≡ true) × (at authors d ≡ v)
    voter v l =
        let m = member_of_count (λ d. member row d && eqb (at authors d) v) n l in
        let b = and_parts (member row m.0) (eqb (at authors m.0) v) m.2 in
        (m.0, m.1, b.0, eqb-true (at authors m.0) v b.1)

    -- who in the row has it votes for it
    pub voted : (d : ℕ) → d < n → member row d ≡ true → 0 < votes n row authors (at authors d)
    voted d l m =
        count_pos (λ e. member row e && eqb (at authors e) (at authors d)) n d l (and_from _ _ m (eq-eqb (at authors d) (at authors d) refl))

    -- a vote is a console that backs the author
    pub votes_le : (v : ℕ) → votes n row authors v ≤ backing n authors v
    votes_le v =
        count_mono (λ d. member row d && eqb (at authors d) v) (λ d. eqb (at authors d) v) n
        (λ c l e. (and_parts (member row c) (eqb (at authors c) v) e).1)

    -- of those in the row and those who back it, as many as exceed n vote for it
    pub votes_many : (v : ℕ) → count (member row) n + backing n authors v ≤ votes n row authors v + n
    votes_many v = count_and (member row) (λ d. eqb (at authors d) v) n

    -- nobody who votes for one author backs another
    pub votes_apart : (v w : ℕ) → (w ≡ v → ⊥) → votes n row authors w + backing n authors v ≤ n
    votes_apart v w ne =
        count_apart (λ d. member row d && eqb (at authors d) w) (λ d. eqb (at authors d) v) n
        (λ c l e f. ne (sym (eqb-true (at authors c) w (and_parts (member row c) (eqb (at authors c) w) e).1) ∙ eqb-true (at authors c) v f))

    -- where all in the row have one author, their count is its votes
    pub votes-all : (v : ℕ) → ((d : ℕ) → d < n → member row d ≡ true → at authors d ≡ v) → count (member row) n ≤ votes n row authors v
    votes-all v h =
        count_mono (member row) (λ d. member row d && eqb (at authors d) v) n (λ c l e. and_from _ _ e (eq-eqb (at authors c) v (h c l e)))

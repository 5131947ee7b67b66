-- What is known of the author that most of a row have, and of the one that more than two thirds of all consoles have.
use Rattle.std.proofs.Common.{◌≡◌, ℕ, zero, suc, ◌+◌, ◌*◌, ◌<◌, ◌≤◌, Bool, eqb, ltb, ◌≢◌, List, sym, refl, ap, subst, ap₂, inl, inr, arith}
use Rattle.std.proofs.lemmas.Bool.{cases_eq, eqb-true, eq-eqb, ltb-true, lt-ltb, both_ways}
use Rattle.console_sets.specs.Sets.{count, member}
use Rattle.console_sets.proofs.Lowest.{lowest_is, lowest_zero, lowest_some, lowest_same}
use Rattle.back_end.specs.Largest.{largest}
use Rattle.back_end.specs.Votes.{backing, votes}
use Rattle.back_end.proofs.Most.{largest_le, largest_is, largest_same}
use Rattle.back_end.proofs.Ballots.{votes_many, votes_apart}
use Rattle.third.specs.Rule.{poll, favourite, elected}

-- polls that agree on the n authors have the same results
module _ (f g : ℕ → ℕ) (n : ℕ) (same : (a : ℕ) → a < n → f a ≡ g a) where
  pub favourite_same : favourite f n ≡ favourite g n
  favourite_same =
      lowest_same (λ a. eqb (f a) (largest f n)) (λ a. eqb (g a) (largest g n)) n (λ a l. ap₂ eqb (same a l) (largest_same f g n same))

  pub elected_same : elected f n ≡ elected g n
  elected_same =
      lowest_same (λ a. ltb (2 * n) (3 * f a)) (λ a. ltb (2 * n) (3 * g a)) n (λ a l. ap (λ (x : ℕ). ltb (2 * n) (3 * x)) (same a l))

module _ (n row : ℕ) (estimates : List ℕ) where
  -- v is an author, and none has more votes
  pub record Most (v : ℕ) : Type 0 where
    pub author : 0 < v
    pub listed : v ≤ n
    pub most : (w : ℕ) → 0 < w → w ≤ n → votes n row estimates w ≤ votes n row estimates v

  pub favourite_most : 0 < n → Most (favourite (poll n row estimates) n)
  favourite_most some =
      let f : ℕ → ℕ = poll n row estimates in
      let p : ℕ → Bool = λ a. eqb (f a) (largest f n) in
      let m = largest_is f n some in
      let low = lowest_some p n m.0 m.1 (eq-eqb (f m.0) (largest f n) m.2) in
      let is = lowest_is p n low.0 low.1 in
      subst Most (sym low.1) (record {
        author = omega arith;
        listed = omega (arith, is.0);
        most = least low.0 (eqb-true (f low.0) (largest f n) is.1);
      })
    where
      least : (a : ℕ) → poll n row estimates a ≡ largest (poll n row estimates) n
          → (w : ℕ) → 0 < w → w ≤ n → votes n row estimates w ≤ votes n row estimates (suc a)
      least a top zero l k = absurd (omega arith)
      least a top (suc b) l k = omega (arith, top, largest_le (poll n row estimates) n b (omega arith))

  -- more than two thirds have who is elected
  pub elected_many : (v : ℕ) → elected (poll n row estimates) n ≡ v → v ≢ 0 → 2 * n < 3 * votes n row estimates v
  elected_many zero e ne = absurd (ne refl)
  elected_many (suc a) e ne =
      ltb-true (2 * n) (3 * poll n row estimates a) (lowest_is (λ b. ltb (2 * n) (3 * poll n row estimates b)) n a e).1

  -- where more than two thirds have an author, one is elected
  pub many_elected : (v : ℕ) → 0 < v → v ≤ n → 2 * n < 3 * votes n row estimates v → elected (poll n row estimates) n ≢ 0
  many_elected zero l k many none = absurd (omega arith)
  many_elected (suc a) l k many none =
      both_ways (ltb (2 * n) (3 * poll n row estimates a))
      (lowest_zero (λ b. ltb (2 * n) (3 * poll n row estimates b)) n none a (omega arith))
      (lt-ltb (2 * n) (3 * poll n row estimates a) many)

  -- an estimate that more than two thirds of all consoles have is the one that most have in every row of n - t
  pub most_is : (t v w : ℕ) → 3 * t < n → n ≤ count (member row) n + t → 0 < v → v ≤ n → 2 * n < 3 * backing n estimates v → Most w → w ≡ v
  most_is t v w served long author listed many m =
      elim (cases_eq w v) [
        | inl e ↦ e
        | inr ne ↦ absurd (omega (arith, m.most v author listed, votes_many n estimates row v, votes_apart n estimates row v w ne))
      ]

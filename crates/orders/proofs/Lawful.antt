-- Lawful orders: of numbers, of values by what they hold, one order after another, and of values that may be absent.
use Rattle.std.proofs.Common.{◌≡◌, ℕ, List, Some, None, Option, sym, refl, ap, ◌∙◌, ap₂, arith}
use Rattle.std.specs.List.{slice_get}
use Rattle.std.proofs.lemmas.Bool.{false≢true}
use Rattle.std.proofs.lemmas.Bool.Decides.{nat_tests}
use Rattle.std.specs.declared.cmp.Ordering.{Ordering}
use Rattle.std.specs.declared.cmp.Ordering.TheVariants.{Less, Equal, Greater}
use Rattle.std.specs.Ordering.{is_lt, nat_cmp, ordering_reverse, ordering_then}
use Rattle.orders.specs.Orders.{Lawful}
use Rattle.orders.specs.Ranks.{among, between}

pub lawful_number : Lawful nat_cmp
lawful_number = record {
  mirrored = λ a b. grind (arith, nat_tests);
  onward = λ a b c e f. grind (arith, nat_tests);
  alike = λ a b c e. grind (arith, nat_tests);
}

pub number_same : (a b : ℕ) → nat_cmp a b ≡ Equal → a ≡ b
number_same a b e = grind (arith, nat_tests)

pub lawful_at : {P Q : Type 0} (places : P → P → Ordering) → Lawful places → (f : Q → P) → Lawful (λ a b. places (f a) (f b))
lawful_at places o f = record {
  mirrored = λ a b. o.mirrored (f a) (f b);
  onward = λ a b c. o.onward (f a) (f b) (f c);
  alike = λ a b c. o.alike (f a) (f b) (f c);
}

-- the second order where the first says `Equal`
flipped_then : (x y : Ordering) → ordering_then (ordering_reverse x) (ordering_reverse y) ≡ ordering_reverse (ordering_then x y)
flipped_then Less y = refl
flipped_then Equal y = refl
flipped_then Greater y = refl

module _ {P : Type 0} (first next : P → P → Ordering) (o : Lawful first) (u : Lawful next) where
  same_turned : (a b c : P) → first b c ≡ Equal → first a b ≡ first a c
  same_turned a b c e = o.mirrored a b ∙ ap ordering_reverse (o.alike b c a e) ∙ sym (o.mirrored a c)

  by_first : (a b : P) (x : Ordering) → first a b ≡ x → ordering_then (first a b) (next a b) ≡ ordering_then x (next a b)
  by_first a b x e = ap (λ (p : Ordering). ordering_then p (next a b)) e

  then_onward : (a b c : P) (x y : Ordering) → first a b ≡ x → first b c ≡ y → ordering_then x (next a b) ≡ Less → ordering_then y (next b c) ≡ Less
      → ordering_then (first a c) (next a c) ≡ Less
  then_onward a b c Less Less h k e f = by_first a c Less (o.onward a b c h k)
  then_onward a b c Less Equal h k e f = by_first a c Less (sym (same_turned a b c k) ∙ h)
  then_onward a b c Equal Less h k e f = by_first a c Less (o.alike a b c h ∙ k)
  then_onward a b c Equal Equal h k e f = by_first a c Equal (o.alike a b c h ∙ k) ∙ u.onward a b c e f
  then_onward a b c Greater y h k e f = absurd (false≢true (ap is_lt e))
  then_onward a b c Less Greater h k e f = absurd (false≢true (ap is_lt f))
  then_onward a b c Equal Greater h k e f = absurd (false≢true (ap is_lt f))

  then_alike : (a b c : P) (x : Ordering) → first a b ≡ x → ordering_then x (next a b) ≡ Equal
      → ordering_then (first a c) (next a c) ≡ ordering_then (first b c) (next b c)
  then_alike a b c Less h e = absurd (false≢true (sym (ap is_lt e)))
  then_alike a b c Equal h e = ap₂ ordering_then (o.alike a b c h) (u.alike a b c e)
  then_alike a b c Greater h e = absurd (false≢true (sym (ap (λ (p : Ordering). is_lt (ordering_reverse p)) e)))

  pub lawful_then : Lawful (λ a b. ordering_then (first a b) (next a b))
  lawful_then = record {
    mirrored = λ a b. ap₂ ordering_then (o.mirrored a b) (u.mirrored a b) ∙ flipped_then (first b a) (next b a);
    onward = λ a b c. then_onward a b c (first a b) (first b c) refl refl;
    alike = λ a b c. then_alike a b c (first a b) refl;
  }

-- values that may be absent
module _ {P : Type 0} (places : P → P → Ordering) (o : Lawful places) where
  among_mirrored : (a b : Option P) → among places a b ≡ ordering_reverse (among places b a)
  among_mirrored (Some x) (Some y) = o.mirrored x y
  among_mirrored (Some x) None = refl
  among_mirrored None (Some y) = refl
  among_mirrored None None = refl

  among_onward : (a b c : Option P) → among places a b ≡ Less → among places b c ≡ Less → among places a c ≡ Less
  among_onward (Some x) (Some y) (Some z) e f = o.onward x y z e f
  among_onward (Some x) b None e f = refl
  among_onward (Some x) None (Some z) e f = absurd (false≢true (ap is_lt f))
  among_onward None (Some y) c e f = absurd (false≢true (ap is_lt e))
  among_onward None None c e f = absurd (false≢true (ap is_lt e))

  among_alike : (a b c : Option P) → among places a b ≡ Equal → among places a c ≡ among places b c
  among_alike (Some x) (Some y) (Some z) e = o.alike x y z e
  among_alike (Some x) (Some y) None e = refl
  among_alike (Some x) None c e = absurd (false≢true (sym (ap is_lt e)))
  among_alike None (Some y) c e = absurd (false≢true (sym (ap (λ (p : Ordering). is_lt (ordering_reverse p)) e)))
  among_alike None None c e = refl

  pub lawful_among : Lawful (among places)
  lawful_among = record { mirrored = among_mirrored; onward = among_onward; alike = among_alike }

  pub lawful_between : (proposals : List P) → Lawful (between places proposals)
  lawful_between proposals = lawful_at (among places) lawful_among (slice_get proposals)

-- What an order of proposals owes, besides that exactly one of the three answers holds.
use Rattle.std.specs.Prelude.{◌≡◌}
use Rattle.std.specs.declared.cmp.Ordering.{Ordering}
use Rattle.std.specs.declared.cmp.Ordering.TheVariants.{Less, Equal}
use Rattle.std.specs.Ordering.{ordering_reverse}

pub record Lawful {P : Type 0} (places : P → P → Ordering) : Type 0 where
  pub mirrored : (a b : P) → places a b ≡ ordering_reverse (places b a)
  pub onward : (a b c : P) → places a b ≡ Less → places b c ≡ Less → places a c ≡ Less
  pub alike : (a b c : P) → places a b ≡ Equal → places a c ≡ places b c

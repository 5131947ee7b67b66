-- The most consoles that there are, for contracts that speak of every argument: it equals the code's MAX_CONSOLES, or nothing is proved.
use Rattle.std.specs.Prelude.{ℕ}

abbrev pub max_consoles : ℕ
max_consoles = 16

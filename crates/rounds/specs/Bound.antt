-- The bounds that contracts cite: they equal the code's MIN_CONSOLES and MAX_ROUNDS, or nothing is proved.
use Rattle.std.specs.Prelude.{ℕ}

-- the fewest consoles of a group
abbrev pub min_consoles : ℕ
min_consoles = 3

-- the most rounds of one press, and of a back end since its start
abbrev pub max_rounds : ℕ
max_rounds = 1000

-- How long a console waits for its decision, in milliseconds.
use Rattle.std.specs.Prelude.{ℕ, ◌+◌, ◌*◌, ◌/◌, ◌<◌, ◌≤◌}

-- the milliseconds of `round` rounds of `length` microseconds each, a half going up; 0 for round 0, that is, without a decision
abbrev pub wait : ℕ → ℕ → ℕ
wait round length = (round * length + 500) / 1000

-- w is the nearest whole millisecond, of two equally near the later
pub record Nearest (round length w : ℕ) : Type 0 where
  pub not_late : 1000 * w ≤ round * length + 500
  pub not_early : round * length + 500 < 1000 * w + 1000

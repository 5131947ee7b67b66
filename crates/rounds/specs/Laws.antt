-- What is known of calls that are accepted, and of steady rounds, in every setting.
use Rattle.std.specs.Prelude.{◌≡◌, ℕ, ◌+◌, ◌*◌, ◌^◌, ◌<◌, ◌≤◌, Bool, true, false, List, length, None}
use Rattle.console_sets.specs.Bound.{max_consoles}
use Rattle.console_sets.specs.Sets.{count, member}
use Rattle.rounds.specs.Bound.{min_consoles, max_rounds}
use Rattle.rounds.specs.Items.{at}
use Rattle.rounds.specs.Rounds.{completing, steady_round, Truthful}
use Rattle.rounds.specs.Checks.{size_refusal, make_refusal, start_refusal, round_refusal}

-- n and t that a group can have
pub record SizeOk (n t : ℕ) : Type 0 where
  pub least : min_consoles ≤ n
  pub most : n ≤ max_consoles
  -- some may fall, and fewer than half
  pub some : 0 < t
  pub half : 2 * t < n

-- an accepted start
pub record StartOk (n t running : ℕ) (entries : List ℕ) : Type 0 where
  -- there are n entries
  pub full : length entries ≡ n
  -- who runs is one of the n
  pub within : running < 2 ^ n
  -- at least n - t run
  pub enough : n ≤ count (member running) n + t
  -- the entry of each is a console's number
  pub author : (c : ℕ) → member running c ≡ true → (0 < at entries c) × (at entries c ≤ n)

-- an accepted round
pub record RoundOk (n t running rounds falls : ℕ) (rows : List ℕ) : Type 0 where
  -- it is not one too many
  pub early : rounds < max_rounds
  -- there are n rows
  pub full : length rows ≡ n
  -- who falls ran
  pub fell : (c : ℕ) → member falls c ≡ true → member running c ≡ true
  -- who completes the round is one of the n, and ran
  pub ran : (c : ℕ) → member (completing running falls) c ≡ true → (c < n) × (member running c ≡ true)
  -- at least n - t complete it
  pub enough : n ≤ count (member (completing running falls)) n + t
  -- each of them heard itself
  pub itself : (c : ℕ) → member (completing running falls) c ≡ true → member (at rows c) c ≡ true
  -- each of them heard only consoles that ran
  pub heard : (c d : ℕ) → member (completing running falls) c ≡ true → member (at rows c) d ≡ true → member running d ≡ true
  -- each of them heard at least n - t
  pub long : (c : ℕ) → member (completing running falls) c ≡ true → n ≤ count (member (at rows c)) n + t
  -- the others heard nobody
  pub silent : (c : ℕ) → c < n → member (completing running falls) c ≡ false → at rows c ≡ 0

-- a steady round
pub record Steady (running falls : ℕ) (rows : List ℕ) : Type 0 where
  -- nobody falls, so that all who ran complete it
  pub nobody : falls ≡ 0
  pub all_complete : completing running falls ≡ running
  -- each of them heard exactly the running consoles
  pub even : (c : ℕ) → member running c ≡ true → at rows c ≡ running

-- each check accepts only such calls
pub record Checks : Type 0 where
  pub size_ok : (n t : ℕ) → size_refusal n t ≡ None → SizeOk n t
  pub make_ok : (serves : Bool) (n t : ℕ) → make_refusal serves n t ≡ None → (serves ≡ true) × SizeOk n t
  pub start_ok : (n t running : ℕ) (entries : List ℕ) → start_refusal n t running entries ≡ None → StartOk n t running entries
  pub round_ok : (n t running rounds falls : ℕ) (rows : List ℕ) → running < 2 ^ n
      → round_refusal n t running rounds falls rows ≡ None → RoundOk n t running rounds falls rows

-- steady rounds, and that each is truthful
pub record Rounds : Type 0 where
  pub steady_ok : (n running falls : ℕ) (rows : List ℕ) → running < 2 ^ n → steady_round n running falls rows ≡ true → Steady running falls rows
  pub ok_steady : (n running falls : ℕ) (rows : List ℕ) → Steady running falls rows → steady_round n running falls rows ≡ true
  pub truthful : (n running falls : ℕ) (rows : List ℕ) → running < 2 ^ n → steady_round n running falls rows ≡ true → Truthful running falls rows

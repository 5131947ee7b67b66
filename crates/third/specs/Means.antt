-- What a Third means as a back end, and what its calls leave beyond that: estimates and verdicts, exactly.
use Rattle.std.specs.Prelude.{◌≡◌, ℕ, List}
use Rattle.rounds.specs.Rounds.{completing}
use Rattle.back_end.specs.Meaning.{Meaning}
use Rattle.back_end.specs.Kept.{meaning_with}
use Rattle.third.specs.Rule.{ThirdRound}
use Rattle.third.specs.declared.state.Third.{Third}

abbrev pub third_meaning : Third → Meaning
third_meaning b = meaning_with b.progress b.verdicts

-- as a start leaves it: each estimate is the entry
abbrev pub Opens : Third → Type 0
Opens b = b.estimates ≡ b.progress.entries

-- as a round leaves it
abbrev pub Steps : ℕ → List ℕ → Third → Third → Type 0
Steps falls rows before after =
    ThirdRound before.progress.n (completing before.progress.running falls) rows before.estimates before.verdicts after.estimates after.verdicts

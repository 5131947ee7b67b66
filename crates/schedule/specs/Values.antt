-- What the fields of a line say, one by one.
use Rattle.std.specs.Prelude.{ℕ, ◌-◌, ◌^◌, Bool, true, false, if◌then◌else◌, List, [], ◌∷◌, Some, None, codes, Option, ◌==◌}
use Rattle.std.specs.Option.{option_map}
use Rattle.orders.specs.declared.Cue.{Cue}
use Rattle.orders.specs.declared.FirstPress.{FirstPress}
use Rattle.schedule.specs.declared.said.ProposalKind.{ProposalKind}
use Rattle.schedule.specs.declared.said.ProposalKind.TheVariants.{Cue as OfCues, First}
use Rattle.schedule.specs.declared.said.BackEndKind.{BackEndKind}
use Rattle.schedule.specs.declared.said.BackEndKind.TheVariants.{Leader, Third}
use Rattle.schedule.specs.Parts.{before, onward}
use Rattle.schedule.specs.Numbers.{number_said}

-- whether two byte strings are the same
abbrev pub same : List ℕ → List ℕ → Bool
same [] [] = true
same [] (c ∷ cs) = false
same (b ∷ bs) [] = false
same (b ∷ bs) (c ∷ cs) = if b == c then same bs cs else false

-- a number of 32 bits
abbrev pub word_said : List ℕ → Option ℕ
word_said bs = number_said 0 (2 ^ 32 - 1) bs

-- a cue
abbrev pub cue_said : List ℕ → Option Cue
cue_said bs = option_map (λ c. record { 0 = c }) (word_said bs)

-- the cue behind a colon
abbrev pub behind_colon : List ℕ → Option ℕ
behind_colon [] = None
behind_colon (b ∷ bs) = if b == 58 then word_said bs else None

-- a tick and a cue
abbrev pub pressed : Option ℕ → Option ℕ → Option FirstPress
pressed (Some tick) (Some cue) = Some (record { tick = tick; cue = cue })
pressed (Some tick) None = None
pressed None cue = None

-- a first press: tick, colon, cue
abbrev pub first_said : List ℕ → Option FirstPress
first_said bs = pressed (word_said (before 58 bs)) (behind_colon (onward 58 bs))

-- a console's proposal: `-` exactly where the console has fallen
abbrev pub proposal_said : {P : Type 0} → P → (List ℕ → Option P) → Bool → List ℕ → Option P
proposal_said blank says true bs = if same bs (codes "-") then Some blank else None
proposal_said blank says false bs = says bs

-- `cue` or `first`
abbrev pub kind_said : List ℕ → Option ProposalKind
kind_said bs = if same bs (codes "cue") then Some OfCues else if same bs (codes "first") then Some First else None

-- `leader` or `third`
abbrev pub back_end_said : List ℕ → Option BackEndKind
back_end_said bs = if same bs (codes "leader") then Some Leader else if same bs (codes "third") then Some Third else None

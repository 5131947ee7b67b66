-- What each kind of line says, from its fields, and the refusal where it says nothing.
use Rattle.std.specs.Prelude.{ℕ, suc, Bool, false, if◌then◌else◌, List, [], ◌∷◌, map, length, Ok, Err, Option, Result, ◌==◌, nat_lt, slice_index_or}
use Rattle.std.specs.Option.{is_none, unwrap_or}
use Rattle.std.specs.List.{range_with_len}
use Rattle.console_sets.specs.Sets.{member, lowest}
use Rattle.console_sets.specs.Bound.{max_consoles}
use Rattle.schedule.specs.declared.refusal.FileRefusal.{FileRefusal}
use Rattle.schedule.specs.declared.refusal.FileRefusal.TheVariants.{FieldCount, BadField}
use Rattle.schedule.specs.declared.said.ProposalKind.TheVariants.{Cue as OfCues}
use Rattle.schedule.specs.declared.said.BackEndKind.TheVariants.{Leader}
use Rattle.schedule.specs.declared.said.RigLine.{RigLine}
use Rattle.schedule.specs.declared.said.RoundLine.{RoundLine}
use Rattle.schedule.specs.Numbers.{number_said, set_said}
use Rattle.schedule.specs.Values.{kind_said, back_end_said}

-- the field of index i behind the word
abbrev pub field : List (List ℕ) → ℕ → List ℕ
field fs i = slice_index_or fs i []

-- what a line says with its fields: x, unless their count is wrong or one of them, by its index, is bad; the word has the place 1
abbrev pub checked : {X : Type 0} → ℕ → List (List ℕ) → ℕ → (ℕ → Bool) → X → Result X FileRefusal
checked line fs count bad x =
    if length fs == count
    then if lowest bad count == 0 then Ok x else Err (BadField line (suc (lowest bad count)))
    else Err (FieldCount line)

-- a value for each console that there can be: what is said of the consoles of index below n, and d for those beyond
unfoldable pub each_console : {V : Type 0} → ℕ → V → (ℕ → Option V) → List V
each_console n d says = map (λ c. if nat_lt c n then unwrap_or (says c) d else d) (range_with_len 0 max_consoles)

-- what a press line says of a console, by what a field says where the console has fallen or not
abbrev pub proposal_at : {V : Type 0} → (Bool → List ℕ → Option V) → ℕ → List (List ℕ) → ℕ → Option V
proposal_at says fallen fs c = says (member fallen c) (field fs c)

-- the proposals of a press line of n consoles
abbrev pub press_said : {V : Type 0} → V → (Bool → List ℕ → Option V) → ℕ → ℕ → ℕ → List (List ℕ) → Result (List V) FileRefusal
press_said d says n fallen line fs = checked line fs n (λ c. is_none (proposal_at says fallen fs c)) (each_console n d (proposal_at says fallen fs))

-- the fall set and the rows of a round line of n consoles
abbrev pub round_said : ℕ → ℕ → List (List ℕ) → Result RoundLine FileRefusal
round_said n line fs =
    checked line fs (suc n) (λ i. is_none (set_said (field fs i)))
    (record { falls = unwrap_or (set_said (field fs 0)) 0; rows = each_console n 0 (λ c. set_said (field fs (suc c))) })

-- n, t, the kind of proposals, the kind of back end, the length of a round
abbrev pub rig_bad : List (List ℕ) → List Bool
rig_bad fs =
    is_none (number_said 0 255 (field fs 0)) ∷ (is_none (number_said 0 255 (field fs 1)) ∷ (is_none (kind_said (field fs 2))
    ∷ (is_none (back_end_said (field fs 3)) ∷ (is_none (number_said 1 1000000 (field fs 4)) ∷ []))))

abbrev pub rig_said : ℕ → List (List ℕ) → Result RigLine FileRefusal
rig_said line fs =
    checked line fs 5 (λ i. slice_index_or (rig_bad fs) i false)
    (record {
      n = unwrap_or (number_said 0 255 (field fs 0)) 0;
      t = unwrap_or (number_said 0 255 (field fs 1)) 0;
      proposals = unwrap_or (kind_said (field fs 2)) OfCues;
      back_end = unwrap_or (back_end_said (field fs 3)) Leader;
      round_length = unwrap_or (number_said 1 1000000 (field fs 4)) 0;
    })

-- What a line says where it stands in a schedule, and what the lines before it leave for reading the next.
use Rattle.std.specs.Prelude.{ℕ, Bool, true, false, if◌then◌else◌, List, length, Some, None, Ok, Err, codes, Option, Result, ◌==◌}
use Rattle.console_sets.specs.Sets.{union}
use Rattle.schedule.specs.declared.refusal.FileRefusal.{FileRefusal}
use Rattle.schedule.specs.declared.refusal.FileRefusal.TheVariants.{UnknownWord, FieldCount, Misplaced}
use Rattle.schedule.specs.declared.said.ProposalKind.{ProposalKind}
use Rattle.schedule.specs.declared.said.ProposalKind.TheVariants.{Cue as OfCues, First}
use Rattle.schedule.specs.declared.said.Proposals.{Proposals}
use Rattle.schedule.specs.declared.said.Proposals.TheVariants.{Cues, FirstPresses}
use Rattle.schedule.specs.declared.said.Said.{Said}
use Rattle.schedule.specs.declared.said.Said.TheVariants.{Rig, Press, Round, Close}
use Rattle.schedule.specs.declared.read.Stage.{Stage}
use Rattle.schedule.specs.declared.read.Stage.TheVariants.{Start, Closed, Open}
use Rattle.schedule.specs.declared.read.Reading.{Reading}
use Rattle.schedule.specs.declared.line.Line.{Line}
use Rattle.schedule.specs.declared.line.Line.TheVariants.{Rig as RigWord, Press as PressWord, Round as RoundWord, Close as CloseWord}
use Rattle.schedule.specs.Parts.{before, later}
use Rattle.schedule.specs.Fields.{left}
use Rattle.schedule.specs.Values.{same, proposal_said, cue_said, first_said}
use Rattle.schedule.specs.Said.{rig_said, press_said, round_said}

-- the kinds of line
pub data Kind : Type 0 where
  a_rig : Kind
  a_press : Kind
  a_round : Kind
  a_close : Kind

-- the kind of line that a first word names
abbrev pub kind_of : List ℕ → Option Kind
kind_of word =
    if same word (codes "rig") then Some a_rig
    else if same word (codes "press") then Some a_press
    else if same word (codes "round") then Some a_round
    else if same word (codes "close") then Some a_close else None

-- a schedule begins with its rig line and has no other; a round or a close wants an open press
abbrev pub misplaced : Stage → Kind → Bool
misplaced Start a_rig = false
misplaced Start a_press = true
misplaced Start a_round = true
misplaced Start a_close = true
misplaced Closed a_rig = true
misplaced Closed a_press = false
misplaced Closed a_round = true
misplaced Closed a_close = true
misplaced Open a_rig = true
misplaced Open a_press = false
misplaced Open a_round = false
misplaced Open a_close = false

-- f of what a line says
abbrev pub map_ok : {X Y : Type 0} → (X → Y) → Result X FileRefusal → Result Y FileRefusal
map_ok f (Ok x) = Ok (f x)
map_ok f (Err e) = Err e

-- the proposals of a press line, by their kind
abbrev pub proposals_said : ProposalKind → ℕ → ℕ → ℕ → List (List ℕ) → Result Proposals FileRefusal
proposals_said OfCues n fallen line fs =
    map_ok Cues (press_said (record { 0 = 0 }) (proposal_said (record { 0 = 0 }) cue_said) n fallen line fs)
proposals_said First n fallen line fs =
    map_ok FirstPresses (press_said (record { tick = 0; cue = 0 }) (proposal_said (record { tick = 0; cue = 0 }) first_said) n fallen line fs)

-- a close line has no fields
abbrev pub close_said : ℕ → List (List ℕ) → Result Said FileRefusal
close_said line fs = if length fs == 0 then Ok Close else Err (FieldCount line)

-- what a line of a kind says with its fields
abbrev pub said_as : Reading → ℕ → List (List ℕ) → Kind → Result Said FileRefusal
said_as st line fs a_rig = map_ok Rig (rig_said line fs)
said_as st line fs a_press = map_ok Press (proposals_said st.proposals st.n st.fallen line fs)
said_as st line fs a_round = map_ok Round (round_said st.n line fs)
said_as st line fs a_close = close_said line fs

-- the same, unless the kind is unknown or misplaced
abbrev pub said_where : Reading → ℕ → List (List ℕ) → Option Kind → Result Said FileRefusal
said_where st line fs None = Err (UnknownWord line)
said_where st line fs (Some kind) = if misplaced st.stage kind then Err (Misplaced line) else said_as st line fs kind

-- what the line of this number says
abbrev pub said_by : Reading → ℕ → List ℕ → Result Said FileRefusal
said_by st line bytes = said_where st line (later 9 bytes) (kind_of (before 9 bytes))

-- what a line says that was taken apart
abbrev pub line_said : Reading → Line → Result Said FileRefusal
line_said st (RigWord fields line) = said_where st line (left fields) (Some a_rig)
line_said st (PressWord fields line) = said_where st line (left fields) (Some a_press)
line_said st (RoundWord fields line) = said_where st line (left fields) (Some a_round)
line_said st (CloseWord fields line) = said_where st line (left fields) (Some a_close)

-- what reading knows before the first line
abbrev pub begun : Reading
begun = record { stage = Start; n = 0; proposals = OfCues; fallen = 0 }

-- what a line that was accepted leaves for reading the next
abbrev pub after : Reading → Said → Reading
after st (Rig rig) = record { stage = Closed; n = rig.n; proposals = rig.proposals; fallen = 0 }
after st (Press proposals) = record { stage = Open; n = st.n; proposals = st.proposals; fallen = st.fallen }
after st (Round round) = record { stage = st.stage; n = st.n; proposals = st.proposals; fallen = union st.fallen round.falls }
after st Close = record { stage = Closed; n = st.n; proposals = st.proposals; fallen = st.fallen }

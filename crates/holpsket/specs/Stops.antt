-- What a refusal shows, and the line that the program prints.
use Rattle.std.specs.Prelude.{ℕ, List, ◌++◌, Ok, Err, codes, decimal, Result}
use Rattle.rounds.specs.declared.refusals.Layer.{Layer}
use Rattle.rounds.specs.declared.refusals.Layer.TheVariants.{File as FileLayer}
use Rattle.rounds.specs.Refusals.{layer_word}
use Rattle.rounds.specs.Refusals as rig
use Rattle.schedule.specs.Refusals as file
use Rattle.holpsket.specs.declared.stop.Stop.{Stop}
use Rattle.holpsket.specs.declared.stop.Stop.TheVariants.{File, Rig}

abbrev pub number_of : Stop → ℕ
number_of (File refusal) = file.number_of refusal
number_of (Rig refusal line) = rig.number_of refusal

abbrev pub layer_of : Stop → Layer
layer_of (File refusal) = FileLayer
layer_of (Rig refusal line) = rig.layer_of refusal

abbrev pub line_of : Stop → ℕ
line_of (File refusal) = file.line_of refusal
line_of (Rig refusal line) = line

abbrev pub place_of : Stop → ℕ
place_of (File refusal) = file.place_of refusal
place_of (Rig refusal line) = rig.place_of refusal

-- `end` and the count of lines, or `refused`, number, layer, line and place, parted by tabs
abbrev pub last_line : Result ℕ Stop → List ℕ
last_line (Ok count) = codes "end\t" ++ decimal count
last_line (Err stop) =
    codes "refused\t" ++ (decimal (number_of stop) ++ (codes "\t" ++ (layer_word (layer_of stop) ++ (codes "\t" ++ (decimal (line_of stop) ++ (codes "\t" ++ decimal (place_of stop)))))))

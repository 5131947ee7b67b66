-- The lines of a sheet.
use Rattle.std.specs.Prelude.{ℕ, suc, ◌-◌, Bool, if◌then◌else◌, not, List, [], ◌∷◌, ◌++◌, map, codes, decimal, ◌==◌}
use Rattle.std.specs.List.{range_with_len}
use Rattle.console_sets.specs.Sets.{lowest}
use Rattle.rounds.specs.declared.refusals.Layer.{Layer}
use Rattle.rounds.specs.Refusals.{layer_word}
use Rattle.front.specs.declared.consoles.Console.{Console}
use Rattle.front.specs.Consoles.{State, state_of, word_of}
use Rattle.rig.specs.declared.page.End.{End}
use Rattle.rig.specs.declared.page.End.TheVariants.{Settled, Dropped}
use Rattle.rig.specs.declared.page.Page.{Page}
use Rattle.schedule.specs.Texts.{set_text}
use Rattle.sheet.specs.Wait.{wait}

-- each field with a tab before it
abbrev pub tabbed : List (List ℕ) → List ℕ
tabbed [] = []
tabbed (field ∷ fields) = 9 ∷ (field ++ tabbed fields)

-- a word, its fields and a line feed
unfoldable pub line : List ℕ → List (List ℕ) → List ℕ
line word fields = word ++ (tabbed fields ++ (10 ∷ []))

abbrev pub end_word : End → List ℕ
end_word Settled = codes "settled"
end_word Dropped = codes "dropped"

-- whether a console has a decision
abbrev pub has_decided : State → ℕ → Bool
has_decided s c = not ((s c).decision == 0)

-- the decision of the lowest of the first n consoles that has one, fallen or not; 0 if none has
abbrev pub author_of : ℕ → State → ℕ
author_of n s = if lowest (has_decided s) n == 0 then 0 else (s (lowest (has_decided s) n - 1)).decision

-- a press: its number, its end, its rounds and the author decided on
abbrev pub page_line : ℕ → End → ℕ → ℕ → List ℕ
page_line press end rounds author = line (codes "page") (decimal press ∷ (end_word end ∷ (decimal rounds ∷ (decimal author ∷ []))))

-- the console of index c, where a round lasts `length` microseconds
abbrev pub console_line : ℕ → ℕ → Console → List ℕ
console_line length c console =
    line (codes "console")
    (decimal (suc c) ∷ (decimal console.estimate ∷ (set_text console.halt ∷ (decimal console.decision
    ∷ (decimal console.round ∷ (word_of console.cause ∷ (decimal (wait console.round length) ∷ [])))))))

-- the lines of a press of n consoles
abbrev pub page_lines : ℕ → ℕ → ℕ → End → ℕ → State → List (List ℕ)
page_lines n length press end rounds s =
    page_line press end rounds (author_of n s) ∷ map (λ c. console_line length c (s c)) (range_with_len 0 n)

-- the lines of a page of n consoles
abbrev pub lines_of : ℕ → ℕ → Page → List (List ℕ)
lines_of n length page = page_lines n length page.press page.end page.rounds (state_of page.consoles)

-- how many lines of a schedule were accepted
abbrev pub end_line : ℕ → List ℕ
end_line count = line (codes "end") (decimal count ∷ [])

-- why a schedule was not accepted, and where
abbrev pub refused_line : ℕ → Layer → ℕ → ℕ → List ℕ
refused_line number layer at place = line (codes "refused") (decimal number ∷ (layer_word layer ∷ (decimal at ∷ (decimal place ∷ []))))

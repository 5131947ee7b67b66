-- Bytes and what separates them: line feeds part a schedule into lines, tabs a line into fields, a colon a tick from a cue.
use Rattle.std.specs.Prelude.{ℕ, Bool, true, if◌then◌else◌, List, [], ◌∷◌, drop, ◌==◌}

-- the bytes before the first x, all of them where there is none
abbrev pub before : ℕ → List ℕ → List ℕ
before x [] = []
before x (b ∷ bs) = if b == x then [] else b ∷ before x bs

-- the bytes from the first x on, none where there is none
abbrev pub onward : ℕ → List ℕ → List ℕ
onward x [] = []
onward x (b ∷ bs) = if b == x then b ∷ bs else onward x bs

-- one byte more in front of the first piece
abbrev pub onto : ℕ → List (List ℕ) → List (List ℕ)
onto b [] = []
onto b (p ∷ ps) = (b ∷ p) ∷ ps

-- the pieces that the x's part the bytes into: k of them make k + 1 pieces
abbrev pub parted : ℕ → List ℕ → List (List ℕ)
parted x [] = [] ∷ []
parted x (b ∷ bs) = if b == x then [] ∷ parted x bs else onto b (parted x bs)

-- whether the bytes are none, or begin with an x
abbrev pub starts : ℕ → List ℕ → Bool
starts x [] = true
starts x (b ∷ bs) = b == x

-- the pieces behind the first x
abbrev pub later : ℕ → List ℕ → List (List ℕ)
later x bs = drop 1 (parted x bs)

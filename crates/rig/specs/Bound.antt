-- The bound on pages that contracts cite: it equals the code's MAX_PAGES, or nothing is proved.
use Rattle.std.specs.Prelude.{ℕ}

-- the most pages of a book
abbrev pub max_pages : ℕ
max_pages = 64

-- The lines of a page, printed one after the other.
use Rattle.std.proofs.Common.{◌≡◌, ℕ, ◌+◌, ◌<◌, ◌≤◌, List, [], ◌∷◌, ◌++◌, length, Ok, Err, Result, sym, ap, ◌∙◌}
use Rattle.std.specs.List.{concat}
use Rattle.std.proofs.lemmas.List.{length-append}
use Rattle.front.specs.declared.consoles.Console.{Console}
use Rattle.front.specs.Consoles.{state_of}
use Rattle.rig.specs.declared.page.Page.{Page}
use Rattle.sheet.specs.declared.printer.NoRoom.{NoRoom}
use Rattle.sheet.specs.Lines.{page_line, author_of, lines_of}
use Rattle.sheet.proofs.Printing.{outcome, Printed, printed_as, printed_none, printed_more, printed_stop}
use Rattle.sheet.proofs.Rows.{row, rows_from, rows_all, rows_next, rows_none}

-- the page's own line
abbrev pub head : ℕ → Page → List ℕ
head n page = page_line page.press page.end page.rounds (author_of n (state_of page.consoles))

-- the same line
pub same_line : {xs ys l k : List ℕ} {len : ℕ} {r : Result ℕ NoRoom} → l ≡ k → Printed xs len (l ∷ []) r ys → Printed xs len (k ∷ []) r ys
same_line {xs} {len = len} e p = printed_as (λ j. outcome xs len (e j ∷ [])) p

module _ {xs ys : List ℕ} {len : ℕ} (round n : ℕ) where
  -- behind the page's line the console lines are left
  pub head_done : {x : ℕ} (page : Page) → Printed xs len (head n page ∷ []) (Ok x) ys → outcome ys x (rows_from round page.consoles n 0) ≡ outcome xs len (lines_of n round page)
  head_done page p =
      printed_more (head n page ∷ []) (rows_from round page.consoles n 0) p
      ∙ ap (λ (ls : List (List ℕ)). outcome xs len (head n page ∷ ls)) (rows_all round page.consoles n)

  -- one console line
  pub row_done : {x : ℕ} (cs : List Console) (i : ℕ) → i < n → Printed xs len (row round cs i ∷ []) (Ok x) ys →
      outcome ys x (rows_from round cs n (i + 1)) ≡ outcome xs len (rows_from round cs n i)
  row_done cs i l p = printed_more (row round cs i ∷ []) (rows_from round cs n (i + 1)) p ∙ ap (outcome xs len) (sym (rows_next round cs n i l))

  pub row_stops : {x : NoRoom} (cs : List Console) (i : ℕ) → i < n → Printed xs len (row round cs i ∷ []) (Err x) ys → Printed xs len (rows_from round cs n i) (Err x) ys
  row_stops cs i l p = printed_as (ap (outcome xs len) (sym (rows_next round cs n i l))) (printed_stop (row round cs i ∷ []) (rows_from round cs n (i + 1)) p)

-- none is left
pub rows_done : (round n : ℕ) (cs : List Console) (i : ℕ) (xs : List ℕ) (len : ℕ) → n ≤ i → Printed xs len (rows_from round cs n i) (Ok len) xs
rows_done round n cs i xs len l = printed_as (ap (outcome xs len) (sym (rows_none round cs n i l))) (printed_none xs len)

-- how long they are
pub lines-length : (round n count : ℕ) (page : Page) → count ≡ length (head n page) + length (concat (rows_from round page.consoles n 0)) → count ≡ length (concat (lines_of n round page))
lines-length round n count page e =
    e
    ∙ sym (length-append (head n page) (concat (rows_from round page.consoles n 0)))
    ∙ ap (λ (ls : List (List ℕ)). length (head n page ++ concat ls)) (rows_all round page.consoles n)

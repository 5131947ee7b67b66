use Rattle.std.proofs.Common.{◌≡◌, min}
use Rattle.console_sets.specs.Bound.{max_consoles}
use Rattle.sheet.specs.Lines.{lines_of}
use Rattle.sheet.proofs.Printing.{outcome}
use Rattle.sheet.proofs.Rows.{rows_from}
use Rattle.sheet.proofs.printer.print_page.Given as goal

-- what is left to print comes to what there was to print
abbrev pub invariant-loop-i : goal.invariant-loop-i
invariant-loop-i l =
    outcome l.out l.used (rows_from l.round_length l.page.consoles l.n l.i)
    ≡ outcome l.fn.out l.fn.len (lines_of (min l.fn.n max_consoles) l.round_length l.page)

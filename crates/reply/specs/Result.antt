-- The desk's result for a book and a sheet, as a value: a refusal, or the verdict, the recovery and the report. specs/Text has its text.
-- Assumes nothing.
use Rattle.std.specs.Prelude.{ℕ, ◌*◌, List, map, ltb, ℤ, pos, length, take}
use Rattle.wire.specs.Layout.{Layout, refusal_number, oversize_if}
use Rattle.book.specs.Layout.{book_layout}
use Rattle.sheet.specs.Sheet.{sheet_layout}
use Rattle.audit.specs.Verdict.{Verdict, book_verdict}
use Rattle.recovery.specs.Recover.{recovery, orders_out, positions_out}
use Rattle.recovery.specs.declared.recover.Recovered.{Recovered}
use Rattle.compare.specs.Report.{discrepancy_kind}
use Rattle.compare.specs.Compare.{lent_report, comparison}
use Rattle.compare.specs.declared.discrepancy.Discrepancy.{Discrepancy}
use Rattle.compare.specs.declared.Compared.{Compared}
use Rattle.std.specs.Prelude.{Ok, Err, Result}
use Rattle.wire.specs.declared.refusal.Refusal.{Refusal}

-- the refusal's number; or the verdict, the recovery, and the kinds of the report's discrepancies, in order
pub data DeskResult : Type 0 where
  Refused : ℕ → DeskResult
  Told : Verdict → Recovered → List ℕ → DeskResult

-- ---- refusals 1 and 2 of the two files: a file over 65,536 bytes is refusal 1, and the book's come before the sheet's
abbrev pub file_layout : List ℕ → Layout → Layout
file_layout s own = oversize_if (ltb 65536 (length s)) own

abbrev pub first_refusal : Layout → Layout → Layout
first_refusal (Ok tt) y = y
first_refusal (Err e) y = (Err e)

abbrev pub files_layout : List ℕ → List ℕ → Layout
files_layout book sheet = first_refusal (file_layout book (book_layout book)) (file_layout sheet (sheet_layout sheet))

abbrev pub unless_refused : Layout → DeskResult → DeskResult
unless_refused (Ok tt) x = x
unless_refused (Err e) x = Refused (refusal_number e)

-- ---- then the recovery and then the comparison, each output being lent `room` bytes
-- a comparison, and the report that it counts
abbrev pub by_comparison : Verdict → Recovered → List Discrepancy → Result Compared Refusal → DeskResult
by_comparison v r xs (Ok c) = Told v r (map discrepancy_kind xs)
by_comparison v r xs (Err e) = Refused (refusal_number e)

unfoldable pub compared_result : ℕ → Verdict → Recovered → List ℕ → List ℕ → List ℕ → DeskResult
compared_result room v r orders positions sheet =
    by_comparison v r (lent_report r.marks orders positions sheet) (comparison r.marks orders positions sheet room)

-- a recovery, and the records that it counts
abbrev pub by_recovery : ℕ → Result Recovered Refusal → Verdict → List ℕ → List ℕ → List ℕ → DeskResult
by_recovery room (Ok r) v orders positions sheet = compared_result room v r (take (64 * r.orders) orders) (take (32 * r.positions) positions) sheet
by_recovery room (Err e) v orders positions sheet = Refused (refusal_number e)

unfoldable pub book_result : ℕ → ℤ → List ℕ → List ℕ → DeskResult
unfolding compared_result
book_result room time book sheet =
    by_recovery room (recovery book time room room) (book_verdict book) (orders_out book time room room) (positions_out book time room room) sheet

-- ---- the desk's result at a caller's time; no line of its text depends on that (`reply_any_time`, crate `sound_reply`), and the desk's is 0
abbrev pub desk_result_at : ℤ → List ℕ → List ℕ → DeskResult
desk_result_at time book sheet = unless_refused (files_layout book sheet) (book_result 65536 time book sheet)

abbrev pub desk_result : List ℕ → List ℕ → DeskResult
desk_result book sheet = desk_result_at (pos 0) book sheet

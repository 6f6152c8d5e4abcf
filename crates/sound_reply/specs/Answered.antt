-- The desk's result for a sound book and a sound sheet: all is told, or refusal 3 where the report has no room. No entry's promise cites it.
-- Assumes nothing.
use Rattle.std.specs.Prelude.{ℕ, ◌*◌, List, map, cond, leb, pos, length}
use Rattle.sheet.specs.Sheet.{sheet_orders, sheet_positions}
use Rattle.audit.specs.Verdict.{Verdict, book_verdict}
use Rattle.recovery.specs.Recover.{State, state_of}
use Rattle.compare.specs.Report.{report, discrepancy_kind}
use Rattle.compare.specs.declared.discrepancy.Discrepancy.{Discrepancy}
use Rattle.reply.specs.Result.{DeskResult, Refused, Told}
use Rattle.reply.specs.Lent.{recovered_of}

-- the report on a state
abbrev pub report_on : State → List ℕ → List Discrepancy
report_on st sheet = report st.marks st.orders st.positions (sheet_orders sheet) (sheet_positions sheet)

-- the report is lent 65,536 bytes
abbrev pub told_if_room : Verdict → State → List Discrepancy → DeskResult
told_if_room v st xs = cond (leb (48 * length xs) 65536) (Told v (recovered_of st) (map discrepancy_kind xs)) (Refused 3)

unfoldable pub answered : List ℕ → List ℕ → DeskResult
answered book sheet = let st = state_of book (pos 0) in told_if_room (book_verdict book) st (report_on st sheet)

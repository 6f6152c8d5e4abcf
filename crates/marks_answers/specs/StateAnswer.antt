-- The answers of state equality and of the comparison, with lent marks. Definitions only.
use Rattle.std.specs.Prelude.{ℕ, List, replicate}
use Rattle.wire.specs.Layout.{both_of}
use Rattle.marks_record.specs.MarksRecord.{truth_number, marks_of, marks_layout}
use Rattle.book.specs.Layout.{book_layout}
use Rattle.sheet.specs.Sheet.{sheet_layout}
use Rattle.state.specs.State.{states_equal, equality_number}
use Rattle.compare.specs.declared.Compared.{Compared}
use Rattle.compare.specs.Compare.{comparison, comparison_number, report_out}
use Rattle.marks_answers.specs.LentMarks.{marks_first, marks_else}
use Rattle.std.specs.Prelude.{Ok, Err, Result, Bool}
use Rattle.wire.specs.declared.refusal.Refusal.{Refusal}

-- ---- the refusal, and two numbers
abbrev pub equality_numbers : Result Bool Refusal → ℕ × ℕ × ℕ
equality_numbers (Ok b) = (equality_number (Ok b), truth_number b, 0)
equality_numbers (Err q) = (equality_number (Err q), 0, 0)

-- how many discrepancies, and whether that is critical
abbrev pub comparison_numbers : Result Compared Refusal → ℕ × ℕ × ℕ
comparison_numbers (Ok r) = (comparison_number (Ok r), r.count, truth_number r.critical)
comparison_numbers (Err q) = (comparison_number (Err q), 0, 0)

-- ---- with lent marks
abbrev pub lent_equality_numbers : List ℕ → List ℕ → List ℕ → List ℕ → List ℕ → List ℕ → List ℕ → List ℕ → ℕ × ℕ × ℕ
lent_equality_numbers a m os xs b n ps ys =
    marks_first (both_of (marks_layout m) (marks_layout n)) (both_of (book_layout a) (book_layout b))
    (equality_numbers (states_equal a (marks_of m) os xs b (marks_of n) ps ys))

-- the room is the report's
abbrev pub lent_comparison_numbers : List ℕ → List ℕ → List ℕ → List ℕ → ℕ → ℕ × ℕ × ℕ
lent_comparison_numbers marks orders positions sheet room =
    marks_first (marks_layout marks) (sheet_layout sheet) (comparison_numbers (comparison (marks_of marks) orders positions sheet room))

-- ---- what is left in the report
abbrev pub lent_report : List ℕ → List ℕ → List ℕ → List ℕ → ℕ → List ℕ
lent_report marks orders positions sheet room =
    marks_else (marks_layout marks) (report_out (marks_of marks) orders positions sheet room) (replicate room 0)

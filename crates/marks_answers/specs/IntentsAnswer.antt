-- The answer of reconciling with lent marks, in the bytes that a caller lent. Definitions only.
use Rattle.std.specs.Prelude.{ℕ, List, ◌++◌, ℤ, replicate}
use Rattle.std.proofs.lemmas.List.Edits.{sets}
use Rattle.wire.specs.Le.{bytes_of}
use Rattle.marks_record.specs.MarksRecord.{marks_of, marks_layout}
use Rattle.sheet.specs.Sheet.{sheet_layout}
use Rattle.intents.specs.Intents.{reconciling, addendum_out}
use Rattle.intents.specs.declared.Reconciled.{Reconciled}
use Rattle.marks_answers.specs.LentMarks.{marks_else}
use Rattle.std.specs.Prelude.{Ok, Err, Result}
use Rattle.wire.specs.declared.refusal.Refusal.{Refusal}
use Rattle.wire.specs.Layout.{Layout}

-- ---- the entries, the intents not reached, and the length of the addendum; 24 bytes, the others zero
unfoldable pub reconciled_bytes : Reconciled → List ℕ
reconciled_bytes r = bytes_of 8 r.entries ++ bytes_of 8 r.unreached ++ bytes_of 8 r.length

abbrev pub reconciling_bytes : Result Reconciled Refusal → ℕ → List ℕ
reconciling_bytes (Ok r) room = sets (replicate room 0) 0 (reconciled_bytes r)
reconciling_bytes (Err q) room = replicate room 0

-- ---- with lent marks
-- lent marks that are no record are refused by 2, after 1 of the sheet
abbrev pub unmarked : Layout → Result Reconciled Refusal
unmarked (Ok u) = Err Refusal.Broken
unmarked (Err q) = Err q

abbrev pub reconciling_if : Layout → Layout → Result Reconciled Refusal → Result Reconciled Refusal
reconciling_if (Ok u) sheet r = r
reconciling_if (Err q) sheet r = unmarked sheet

-- the room is the addendum's
abbrev pub lent_reconciling : List ℕ → List ℕ → List ℕ → List ℕ → ℤ → ℕ → Result Reconciled Refusal
lent_reconciling marks orders sheet queries time room =
    reconciling_if (marks_layout marks) (sheet_layout sheet) (reconciling (marks_of marks) orders sheet queries time room)

abbrev pub lent_addendum_out : List ℕ → List ℕ → List ℕ → List ℕ → ℤ → ℕ → List ℕ
lent_addendum_out marks orders sheet queries time room =
    marks_else (marks_layout marks) (addendum_out (marks_of marks) orders sheet queries time room) (replicate room 0)

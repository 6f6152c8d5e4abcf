-- The answers of recovery, the action and the step in the bytes that a caller lent. Definitions only.
use Rattle.std.specs.Prelude.{ℕ, List, ◌++◌, Bool, true, false, cond, ltb, replicate}
use Rattle.std.proofs.lemmas.List.Edits.{sets}
use Rattle.wire.specs.Le.{bytes_of}
use Rattle.marks.specs.declared.Marks.{Marks}
use Rattle.marks_record.specs.MarksRecord.{marks_bytes, marks_of, marks_layout}
use Rattle.book.specs.Layout.{book_layout}
use Rattle.marks.specs.Action.{lent_action}
use Rattle.marks.specs.declared.action.RecoveryAction.{RecoveryAction}
use Rattle.marks.specs.declared.action.RecoveryAction.TheVariants.{Restart, Resume, ManualReview}
use Rattle.recovery.specs.declared.recover.Recovered.{Recovered}
use Rattle.reader.specs.Reader.{stepped, stepped_number, marks_after}
use Rattle.marks_answers.specs.LentMarks.{marks_first, marks_else}
use Rattle.std.specs.Prelude.{Ok, Err, Result}
use Rattle.wire.specs.Layout.{refusal_number}
use Rattle.std.specs.Int.{from_bool}
use Rattle.wire.specs.declared.refusal.Refusal.{Refusal}

-- ---- an action's number
abbrev pub action_code : RecoveryAction → ℕ
action_code Restart = 0
action_code Resume = 1
action_code ManualReview = 2

-- ---- recovery: the marks in 176 bytes, then how many orders, how many positions, and the action; 200 bytes, the others zero
unfoldable pub recovered_bytes : Recovered → List ℕ
recovered_bytes r = marks_bytes r.marks ++ (bytes_of 8 r.orders ++ bytes_of 8 r.positions ++ bytes_of 8 (action_code r.action))

abbrev pub recovery_bytes : Result Recovered Refusal → ℕ → List ℕ
recovery_bytes (Ok r) room = sets (replicate room 0) 0 (recovered_bytes r)
recovery_bytes (Err q) room = replicate room 0

-- ---- the numbers of the action and of a step: the refusal, and two
abbrev pub action_numbers : Result RecoveryAction Refusal → ℕ × ℕ × ℕ
action_numbers (Ok a) = (0, action_code a, 0)
action_numbers (Err q) = (refusal_number q, 0, 0)

-- 1 where an event was stepped
abbrev pub step_numbers : Result Bool Refusal → ℕ × ℕ × ℕ
step_numbers (Ok stepped) = (stepped_number (Ok stepped), from_bool stepped, 0)
step_numbers (Err q) = (stepped_number (Err q), 0, 0)

-- ---- with lent marks
abbrev pub lent_action_numbers : List ℕ → List ℕ → ℕ × ℕ × ℕ
lent_action_numbers marks orders = marks_first (marks_layout marks) (Ok tt) (action_numbers (lent_action (marks_of marks) orders))

abbrev pub lent_step_numbers : List ℕ → ℕ → List ℕ → ℕ × ℕ × ℕ
lent_step_numbers book next marks = marks_first (marks_layout marks) (book_layout book) (step_numbers (stepped book next))

-- ---- the lent record at a step's end: of the altered marks where an event was stepped, else the bytes that it had
abbrev pub record_if : Result Bool Refusal → List ℕ → Marks → List ℕ
record_if (Ok true) s m = marks_bytes m
record_if (Ok false) s m = s
record_if (Err q) s m = s

-- also where the answer has no room
unfoldable pub kept_if_short : ℕ → List ℕ → List ℕ → List ℕ
kept_if_short room s t = cond (ltb room 16) s t

abbrev pub record_after : List ℕ → ℕ → ℕ → List ℕ → List ℕ
record_after book next room s =
    marks_else (marks_layout s) (kept_if_short room s (record_if (stepped book next) s (marks_after book next (marks_of s)))) s

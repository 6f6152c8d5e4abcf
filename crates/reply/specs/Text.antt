-- The text of the desk's result, in document 01's words.
-- Assumes nothing.
use Rattle.std.specs.Prelude.{ℕ, List, [], ◌++◌, length}
use Rattle.wire.specs.Table.{encoded}
use Rattle.checkpoint.specs.Checkpoint.{ascii}
use Rattle.checkpoint.specs.declared.Checkpoint.{Checkpoint}
use Rattle.audit.specs.Verdict.{Verdict, verdict_numbers}
use Rattle.marks.specs.declared.action.RecoveryAction.{RecoveryAction}
use Rattle.marks.specs.declared.action.RecoveryAction.TheVariants.{Restart, Resume, ManualReview}
use Rattle.recovery.specs.declared.recover.Recovered.{Recovered}
use Rattle.lines.specs.Lines.{checkpoint_name, newline, field, line}
use Rattle.reply.specs.Result.{DeskResult, Refused, Told}

-- refusal number, event counted from 1, checkpoint number
abbrev pub numbers_line : ℕ × ℕ × ℕ → List ℕ
numbers_line n = field (ascii "verdict ") n.0 ++ field (ascii " ") n.1 ++ line (ascii " ") n.2

unfoldable pub verdict_line : Verdict → List ℕ
verdict_line v = numbers_line (verdict_numbers v)

abbrev pub action_name : RecoveryAction → List ℕ
action_name Restart = ascii "Restart"
action_name Resume = ascii "Resume"
action_name ManualReview = ascii "ManualReview"

unfoldable pub action_line : RecoveryAction → List ℕ
action_line a = ascii "action " ++ action_name a ++ newline

-- checkpoint and number
unfoldable pub last_line : Checkpoint → ℕ → List ℕ
last_line k n = ascii "last " ++ checkpoint_name k ++ line (ascii " ") n

-- `orders` and `positions` give counts of recovered records
unfoldable pub recovered_lines : Verdict → Recovered → List ℕ
unfolding verdict_line action_line last_line
recovered_lines v r =
    verdict_line v ++ action_line r.action ++ last_line r.marks.checkpoint r.marks.number ++ line (ascii "orders ") r.orders
    ++ line (ascii "positions ") r.positions

-- `report` gives the count, then one line per discrepancy, holding its kind number alone
abbrev pub kind_line : ℕ → List ℕ
kind_line k = line [] k

unfoldable pub report_lines : List ℕ → List ℕ
report_lines kinds = line (ascii "report ") (length kinds) ++ encoded kind_line kinds

-- another refusal
unfoldable pub refused_line : ℕ → List ℕ
refused_line n = line (ascii "refused ") n

-- the whole text
abbrev pub result_text : DeskResult → List ℕ
result_text (Refused n) = refused_line n
result_text (Told v r kinds) = recovered_lines v r ++ report_lines kinds

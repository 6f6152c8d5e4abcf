-- The reply always fits the 65,536 bytes that the desk lends. About no function.
-- Assumes nothing.
use Prim.Native.Nat.{ℕ, ◌+◌, ◌*◌, ◌≤◌, ◌<◌}
use mathlib.Core.Path.{◌≡◌}
use mathlib.Core.List.{List, [], ◌∷◌, ◌++◌}
use native.Mathlib.Nat.{mul-suc}
use native.Mathlib.Omega.{arith}
use borrow.Author.Tests.{le-leb}
use lib.Dec.{lit<}
use lib.IntN.{pos}
use lib.ListN.{length, length-append}
use Rattle.wire.specs.Table.{encoded}
use Rattle.checkpoint.specs.Checkpoint.{ascii}
use Rattle.checkpoint.specs.declared.Checkpoint.{Checkpoint}
use Rattle.audit.specs.Verdict.{verdict_numbers}
use Rattle.audit.specs.Verdict.{Verdict}
use Rattle.marks.specs.declared.action.RecoveryAction.{RecoveryAction}
use Rattle.marks.specs.declared.action.RecoveryAction.TheVariants.{Restart, Resume, ManualReview}
use Rattle.recovery.specs.declared.recover.Recovered.{Recovered}
use Rattle.lines.specs.Lines.{field, line, checkpoint_name}
use Rattle.lines.proofs.Digits.{digits_within}
use Rattle.lines.proofs.Names.{name_within}
use Rattle.reply.specs.Result.{DeskResult, Refused, Told, files_layout, unless_refused, book_result, desk_result}
use Rattle.reply.specs.Text.{verdict_line, action_line, last_line, recovered_lines, kind_line, report_lines, refused_line, result_text}
use Rattle.reply.specs.Reply.{reply_text, replied}
use Rattle.reply.proofs.Compared.{kinds_of}
use Rattle.reply.proofs.Parts.{result_few}
use Rattle.std.specs.Prelude.{Ok, Err}
use Rattle.wire.specs.Layout.{Layout}

-- ---- each line
field_within : (w : List ℕ) (n : ℕ) → length (field w n) ≤ length w + 20
field_within w n = rw length-append (omega (arith, digits_within 20 n))

line_within : (w : List ℕ) (n : ℕ) → length (line w n) ≤ length w + 21
line_within w n = rw (length-append (field w n)) (omega (arith, field_within w n))

verdict_within : (v : Verdict) → length (verdict_line v) < 100
unfolding verdict_line
verdict_within v =
    let n = verdict_numbers v in
    rw (length-append (field (ascii "verdict ") n.0 ++ field (ascii " ") n.1), length-append (field (ascii "verdict ") n.0))
    (omega (arith, field_within (ascii "verdict ") n.0, field_within (ascii " ") n.1, line_within (ascii " ") n.2))

action_within : (a : RecoveryAction) → length (action_line a) < 100
unfolding action_line
action_within Restart = lit< tt
action_within Resume = lit< tt
action_within ManualReview = lit< tt

last_within : (k : Checkpoint) (n : ℕ) → length (last_line k n) < 100
unfolding last_line
last_within k n =
    rw (length-append (ascii "last " ++ checkpoint_name k), length-append (ascii "last "))
    (omega (arith, name_within k, line_within (ascii " ") n))

recovered_within : (v : Verdict) (r : Recovered) → length (recovered_lines v r) < 400
unfolding recovered_lines
recovered_within v r =
    let a = verdict_line v in
    let b = action_line r.action in
    let c = last_line r.marks.checkpoint r.marks.number in
    let d = line (ascii "orders ") r.orders in
    rw (length-append (a ++ b ++ c ++ d), length-append (a ++ b ++ c), length-append (a ++ b), length-append a)
    (omega (
      arith,
      verdict_within v,
      action_within r.action,
      last_within r.marks.checkpoint r.marks.number,
      line_within (ascii "orders ") r.orders,
      line_within (ascii "positions ") r.positions,
    ))

kinds_within : (ks : List ℕ) → length (encoded kind_line ks) ≤ 21 * length ks
unfolding encoded
kinds_within [] = omega arith
kinds_within (k ∷ ks) = rw (length-append (kind_line k), mul-suc) (omega (arith, line_within [] k, kinds_within ks))

report_within : (ks : List ℕ) → length (report_lines ks) ≤ 28 + 21 * length ks
unfolding report_lines
report_within ks =
    rw (length-append (line (ascii "report ") (length ks))) (omega (arith, line_within (ascii "report ") (length ks), kinds_within ks))

refused_within : (n : ℕ) → length (refused_line n) < 30000
unfolding refused_line
refused_within n = omega (arith, line_within (ascii "refused ") n)

-- ---- the whole
result_within : (x : DeskResult) → 48 * length (kinds_of x) ≤ 65536 → length (result_text x) < 30000
result_within (Refused n) h = refused_within n
result_within (Told v r ks) h = rw (length-append (recovered_lines v r)) (omega (arith, recovered_within v r, report_within ks))

unless_few : (l : Layout) (x : DeskResult) → 48 * length (kinds_of x) ≤ 65536 → 48 * length (kinds_of (unless_refused l x)) ≤ 65536
unless_few (Ok tt) x h = h
unless_few (Err e) x h = omega arith

pub reply_within : (book sheet : List ℕ) → length (reply_text book sheet) < 30000
unfolding reply_text
reply_within book sheet =
    result_within (desk_result book sheet)
    (unless_few (files_layout book sheet) (book_result 65536 (pos 0) book sheet) (result_few (pos 0) book sheet 65536))

pub always_done : (book sheet : List ℕ) → replied (reply_text book sheet) 65536 ≡ Ok (length (reply_text book sheet))
always_done book sheet = rw (le-leb (length (reply_text book sheet)) 65536 (omega (arith, reply_within book sheet)))

-- `reply::text::put_report`: the kinds after the count.
use native.Mathlib.Omega.{arith}
use Rattle.wire.specs.Le.{le}
use Rattle.wire.specs.Table.{records, encoded}
use Rattle.wire.proofs.Records.{length_records}
use Rattle.checkpoint.specs.Checkpoint.{ascii}
use Rattle.lines.specs.Lines.{line}
use Rattle.lines.proofs.Behind.{wrote_behind}
use Rattle.reply.specs.Text.{kind_line, report_lines}
use Rattle.reply.proofs.text.put_report.Goals as goal

pub returns : goal.returns
unfolding report_lines
returns c =
    let a = c.args in
    let t = c.put_line-n in
    let k = c.put_kinds in
    let w = wrote_behind a.d.now a.at (line (ascii "report ") a.count) t.new.d t.result (encoded kind_line (records (le 4) 48 a.count a.report.now)) k.new.d k.result (t.ensures.0, t.ensures.1) (k.ensures.0, k.ensures.1) in
    rw (length_records (le 4) 48 a.count a.report.now) (w.0, w.1, omega arith)

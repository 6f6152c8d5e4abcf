-- `reply::text::put_told`: the report after the recovery.
use Rattle.wire.specs.Le.{le}
use Rattle.wire.specs.Table.{records}
use Rattle.reply.specs.Text.{recovered_lines, report_lines}
use Rattle.reply.proofs.Room.{wrote_next}
use Rattle.reply.proofs.text.put_told.Goals as goal

pub returns : goal.returns
returns c =
    let a = c.args in
    let t = c.put_recovered-n in
    let k = c.put_report in
    wrote_next a.d.now (recovered_lines a.v a.r) t.new.d t.result (report_lines (records (le 4) 48 a.count a.report.now)) k.new.d k.result
    t.ensures.text (k.ensures.0, k.ensures.1)

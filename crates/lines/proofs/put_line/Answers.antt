-- `lines::put_line`: the newline after the field.
use native.Mathlib.Omega.{arith}
use Rattle.lines.specs.Lines.{field, newline}
use Rattle.lines.proofs.Behind.{wrote_behind}
use Rattle.lines.proofs.put_line.Goals as goal

pub returns : goal.returns
returns c =
    let a = c.args in
    let t = c.put_field-len in
    let p = c.put_text in
    let w = wrote_behind a.d.now a.at (field a.word.now a.n) t.new.d t.result newline p.new.d p.result (t.ensures.0, t.ensures.1) p.ensures in
    (w.0, w.1, omega arith)

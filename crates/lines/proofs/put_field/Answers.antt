-- `lines::put_field`: the number after the text.
use native.Mathlib.Omega.{arith}
use Rattle.lines.specs.Lines.{decimal}
use Rattle.lines.proofs.Digits.{digits_within}
use Rattle.lines.proofs.Behind.{wrote_behind}
use Rattle.lines.proofs.put_field.Goals as goal

pub overflow_add-result : goal.overflow_add-result
overflow_add-result c = omega (arith, digits_within 20 c.args.n)

pub returns : goal.returns
returns c =
    let a = c.args in
    let t = c.put_text-len in
    let p = c.put_decimal in
    let w = wrote_behind a.d.now a.at a.word.now t.new.d t.result (decimal a.n) p.new.d p.result t.ensures p.ensures in
    (w.0, w.1, omega (arith, digits_within 20 a.n))

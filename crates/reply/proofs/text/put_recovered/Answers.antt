-- `reply::text::put_recovered`: five lines, one after the other.
use Prim.Native.Nat.{◌+◌}
use mathlib.Core.List.{◌++◌}
use native.Mathlib.Omega.{arith}
use Rattle.checkpoint.specs.Checkpoint.{ascii}
use Rattle.lines.specs.Lines.{line}
use Rattle.reply.specs.Text.{verdict_line, action_line, last_line, recovered_lines}
use Rattle.reply.proofs.Room.{wrote_next}
use Rattle.reply.proofs.text.put_recovered.Goals as goal

pub returns : goal.returns
unfolding recovered_lines
returns c =
    let a = c.args in
    let r = a.r in
    let v = c.put_verdict-a in
    let act = c.put_action in
    let l = c.put_last in
    let o = c.put_line in
    let p = c.put_line-2 in
    let d = a.d.now in
    let t1 = verdict_line a.v in
    let t2 = t1 ++ action_line r.action in
    let t3 = t2 ++ last_line r.marks.checkpoint r.marks.number in
    let t4 = t3 ++ line (ascii "orders ") r.orders in
    let n2 = v.result + act.result in
    let n3 = n2 + l.result in
    let n4 = n3 + o.result in
    let w2 = wrote_next d t1 v.new.d v.result (action_line r.action) act.new.d act.result v.ensures.text (act.ensures.0, act.ensures.1) in
    let w3 = wrote_next d t2 act.new.d n2 (last_line r.marks.checkpoint r.marks.number) l.new.d l.result w2 (l.ensures.0, l.ensures.1) in
    let w4 = wrote_next d t3 l.new.d n3 (line (ascii "orders ") r.orders) o.new.d o.result w3 (o.ensures.0, o.ensures.1) in
    let w5 = wrote_next d t4 o.new.d n4 (line (ascii "positions ") r.positions) p.new.d p.result w4 (p.ensures.0, p.ensures.1) in
    record { text = w5; short = omega (arith, v.ensures.short, act.ensures, l.ensures, o.ensures, p.ensures) }

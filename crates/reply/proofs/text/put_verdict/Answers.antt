-- `reply::text::put_verdict`: the three numbers, one after the other.
use Prim.Native.Nat.{◌+◌}
use mathlib.Core.List.{◌++◌}
use Rattle.checkpoint.specs.Checkpoint.{ascii}
use Rattle.lines.specs.Lines.{field, line}
use Rattle.reply.specs.Text.{verdict_line}
use Rattle.reply.proofs.Room.{wrote_next}
use Rattle.reply.proofs.text.put_verdict.Goals as goal

pub returns-clause-text : goal.returns-clause-text
unfolding verdict_line
returns-clause-text c =
    let d = c.args.d.now in
    let n = c.verdict_numbers-x in
    let t = c.put_field-n in
    let k = c.put_field in
    let l = c.put_line in
    let f = field (ascii "verdict ") n.result.0 in
    let g = field (ascii " ") n.result.1 in
    let w = wrote_next d f t.new.d t.result g k.new.d k.result (t.ensures.0, t.ensures.1) (k.ensures.0, k.ensures.1) in
    let x = wrote_next d (f ++ g) k.new.d (t.result + k.result) (line (ascii " ") n.result.2) l.new.d l.result w (l.ensures.0, l.ensures.1) in
    rw (← n.ensures.0, ← n.ensures.1, ← n.ensures.2) x

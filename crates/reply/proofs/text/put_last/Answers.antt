-- `reply::text::put_last`: word, name and number, one after the other.
use Prim.Native.Nat.{◌+◌}
use mathlib.Core.List.{◌++◌}
use native.Mathlib.Omega.{arith}
use Rattle.checkpoint.specs.Checkpoint.{ascii}
use Rattle.lines.specs.Lines.{checkpoint_name, line}
use Rattle.lines.proofs.Names.{name_within}
use Rattle.lines.proofs.Behind.{wrote_behind}
use Rattle.reply.specs.Text.{last_line}
use Rattle.reply.proofs.text.put_last.Goals as goal

pub overflow_add-m : goal.overflow_add-m
overflow_add-m c = omega (arith, name_within c.args.k)

pub overflow_add-at-2 : goal.overflow_add-at-2
overflow_add-at-2 c = omega (arith, name_within c.args.k)

pub put_line-requires : goal.put_line-requires
put_line-requires c = omega (arith, name_within c.args.k)

pub overflow_add-result : goal.overflow_add-result
overflow_add-result c = omega (arith, name_within c.args.k)

pub returns : goal.returns
unfolding last_line
returns c =
    let a = c.args in
    let t = c.put_text-n in
    let k = c.put_checkpoint_name in
    let l = c.put_line in
    let w = wrote_behind a.d.now a.at (ascii "last ") t.new.d t.result (checkpoint_name a.k) k.new.d k.result t.ensures k.ensures in
    let x = wrote_behind a.d.now a.at (ascii "last " ++ checkpoint_name a.k) k.new.d (t.result + k.result) (line (ascii " ") a.number) l.new.d l.result w (l.ensures.0, l.ensures.1) in
    (x.0, x.1, omega (arith, name_within a.k))

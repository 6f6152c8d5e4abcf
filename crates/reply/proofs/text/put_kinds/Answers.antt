-- `reply::text::put_kinds`: the lines still to be written, put after those that are, are the whole.
use Prim.Native.Nat.{ℕ, ◌+◌}
use mathlib.Core.Path.{sym, ap, ◌∙◌}
use native.Mathlib.Nat.{add-zero, add_assoc}
use native.Mathlib.Omega.{arith}
use Rattle.reply.proofs.KindLines.{kinds_none, kinds_on}
use Rattle.reply.proofs.text.put_kinds.Goals as goal

pub loop-i-preserved : goal.loop-i-preserved
loop-i-preserved c =
    let a = c.args in
    let l = c.loop-i in
    let p = c.put_line-n in
    let w = kinds_on a.count a.report.now l.i c.loop-i-test.true l.d p.new.d (a.at + l.n) p.result (rw (← c.u32_at.ensures) (p.ensures.0, p.ensures.1)) in
    (p.auto.d ∙ l.invariant.0, omega arith, l.invariant.2 ∙ ap (λ (x : ℕ). l.n + x) w.0 ∙ sym (add_assoc l.n p.result _), l.invariant.3 ∙ w.1 ∙ rw (add_assoc a.at l.n p.result))

pub returns : goal.returns
returns c =
    let a = c.args in
    let l = c.loop-i in
    let e = kinds_none a.count a.report.now l.i c.loop-i-test.false in
    (sym (l.invariant.2 ∙ rw (e, add-zero l.n)), sym (l.invariant.3 ∙ rw e), omega arith)

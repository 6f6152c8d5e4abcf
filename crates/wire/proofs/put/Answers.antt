-- `wire::put`: what is still to be written, put after what is, is what was asked for.
use native.Mathlib.Omega.{arith}
use Rattle.std.proofs.Common.{sym, ◌∙◌, ◌-◌, ◌+◌, ◌≡◌}
use Rattle.wire.proofs.Written.{put_step, put_end}
use Rattle.wire.proofs.put.Goals as goal

pub loop-i-preserved : goal.loop-i-preserved
loop-i-preserved c =
    let l = c.loop-i in
    let e : c.args.n - (l.i - c.args.at) - 1 ≡ c.args.n - (l.i + 1 - c.args.at) = omega (arith, l.auto.i) in
    l.invariant ∙ put_step l.d l.i _ l.rest (omega (arith, c.loop-i-test.true, c.min-end.ensures, c.saturating_add.ensures, l.auto.i)) ∙ rw e

pub returns : goal.returns
returns c =
    let l = c.loop-i in
    sym (l.invariant ∙ put_end l.d l.i _ l.rest (λ h. omega (arith, h, c.loop-i-test.false, c.min-end.ensures, c.saturating_add.ensures, l.auto.d)))

-- `passes::pass`: one place after the other.
use Rattle.std.proofs.lemmas.Result.{err_from_is_err_and}
use Rattle.compare.specs.Buffer.{places}
use Rattle.compare.proofs.Adding.{adds_none, places_next, places_full}
use Rattle.compare.proofs.passes.pass.Goals as goal

pub loop-i-init : goal.loop-i-init
unfolding places
loop-i-init g c = λ k q. adds_none

pub returns-in_err-n : goal.returns-in_err-n
returns-in_err-n g c = λ k q.
    let p = err_from_is_err_and c.from_residual.result c.from_residual.ensures.1 in
    let l = c.loop-i in
    rw (p.1, p.2) (places_full k l.i c.args.m c.loop-i-test.true (places_next k l.i (l.invariant k q) (q l.i _ c.loop-i-test.true c.found.ensures) c.in_err-n.ensures))

pub loop-i-preserved : goal.loop-i-preserved
loop-i-preserved g c = λ k q.
    let l = c.loop-i in
    places_next k l.i (l.invariant k q) (q l.i _ c.loop-i-test.true c.found.ensures) c.in_ok-n.ensures

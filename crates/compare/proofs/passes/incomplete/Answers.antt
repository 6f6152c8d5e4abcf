-- `passes::incomplete`: one query after the other.
use Rattle.std.proofs.lemmas.Result.{err_from_is_err_and}
use Rattle.compare.specs.Report.{pass}
use Rattle.compare.proofs.Adding.{adds_before, full_before}
use Rattle.compare.proofs.passes.incomplete.Goals as goal

pub returns-in_err-n : goal.returns-in_err-n
unfolding pass
returns-in_err-n c =
    let p = err_from_is_err_and c.from_residual.result c.from_residual.ensures.1 in
    rw (p.1, p.2, ← c.then_some.ensures) (full_before _ _ c.in_err-n.ensures)

pub returns-in_err-n-2 : goal.returns-in_err-n-2
unfolding pass
returns-in_err-n-2 c =
    let r = c.from_residual-in_err-n-2 in
    let p = err_from_is_err_and r.result r.ensures.1 in
    rw (p.1, p.2, ← c.then_some.ensures, ← c.then_some-2.ensures) (adds_before _ c.in_ok-n.ensures (full_before _ _ c.in_err-n-2.ensures))

pub returns-in_err-n-3 : goal.returns-in_err-n-3
unfolding pass
returns-in_err-n-3 c =
    let r = c.from_residual-in_err-n-3 in
    let p = err_from_is_err_and r.result r.ensures.1 in
    rw (p.1, p.2, ← c.then_some.ensures, ← c.then_some-2.ensures, ← c.then_some-3.ensures)
    (adds_before _ c.in_ok-n.ensures (adds_before _ c.in_ok-n-2.ensures (full_before _ _ c.in_err-n-3.ensures)))

pub returns : goal.returns
unfolding pass
returns c =
    rw (← c.then_some.ensures, ← c.then_some-2.ensures, ← c.then_some-3.ensures, ← c.then_some-4.ensures)
    (adds_before _ c.in_ok-n.ensures (adds_before _ c.in_ok-n-2.ensures (adds_before _ c.in_ok-n-3.ensures c.note-4.ensures)))

-- `passes::report`: each pass after those before it. Where one refuses, what is left does not fit either.
use mathlib.Core.Path.{ap}
use Rattle.std.specs.Prelude.{Option}
use Rattle.std.proofs.lemmas.Result.{err_from_is_err_and}
use Rattle.compare.specs.Report.{pass, report}
use Rattle.compare.specs.Buffer.{all_marks}
use Rattle.compare.specs.declared.Unanswered.{Unanswered}
use Rattle.compare.specs.declared.discrepancy.Discrepancy.{Discrepancy}
use Rattle.compare.proofs.Adding.{holds_all, adds_then, adds_full}
use Rattle.compare.proofs.passes.report.Goals as goal

pub returns-in_err-n : goal.returns-in_err-n
unfolding report
returns-in_err-n c m q =
    let r = c.from_residual in
    let p = err_from_is_err_and r.result r.ensures.1 in
    rw (p.1, p.2) (holds_all _ c.clear.ensures (adds_full _ (adds_full _ (adds_full _ (adds_full _ (adds_full _ c.in_err-n.ensures))))))

pub returns-in_err-n-2 : goal.returns-in_err-n-2
unfolding report
returns-in_err-n-2 c m q =
    let r = c.from_residual-in_err-n-2 in
    let p = err_from_is_err_and r.result r.ensures.1 in
    rw (p.1, p.2) (holds_all _ c.clear.ensures (adds_full _ (adds_full _ (adds_full _ (adds_full _ (adds_then c.in_ok-n.ensures c.in_err-n-2.ensures))))))

pub returns-in_err-n-3 : goal.returns-in_err-n-3
unfolding report
returns-in_err-n-3 c m q =
    let r = c.from_residual-in_err-n-3 in
    let p = err_from_is_err_and r.result r.ensures.1 in
    rw (p.1, p.2) (holds_all _ c.clear.ensures (adds_full _ (adds_full _ (adds_full _ (adds_then (adds_then c.in_ok-n.ensures c.in_ok-n-2.ensures) c.in_err-n-3.ensures)))))

pub returns-in_err-n-4 : goal.returns-in_err-n-4
unfolding report
returns-in_err-n-4 c m q =
    let r = c.from_residual-in_err-n-4 in
    let p = err_from_is_err_and r.result r.ensures.1 in
    rw (p.1, p.2) (holds_all _ c.clear.ensures (adds_full _ (adds_full _ (adds_then (adds_then (adds_then c.in_ok-n.ensures c.in_ok-n-2.ensures) c.in_ok-n-3.ensures) c.in_err-n-4.ensures))))

pub returns-in_err-n-5 : goal.returns-in_err-n-5
unfolding report
returns-in_err-n-5 c m q =
    let r = c.from_residual-in_err-n-5 in
    let p = err_from_is_err_and r.result r.ensures.1 in
    rw (p.1, p.2) (holds_all _ c.clear.ensures (adds_full _ (adds_then (adds_then (adds_then (adds_then c.in_ok-n.ensures c.in_ok-n-2.ensures) c.in_ok-n-3.ensures) c.in_ok-n-4.ensures) c.in_err-n-5.ensures)))

pub returns : goal.returns
unfolding report
returns c m q =
    rw (← ap (λ (u : Unanswered). pass (λ (x : (Option Discrepancy)). x) (all_marks u)) q)
    (holds_all _ c.clear.ensures (adds_then (adds_then (adds_then (adds_then (adds_then c.in_ok-n.ensures c.in_ok-n-2.ensures) c.in_ok-n-3.ensures) c.in_ok-n-4.ensures) c.in_ok-n-5.ensures) c.incomplete.ensures))

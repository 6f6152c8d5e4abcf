-- `states_equal`: by the layouts.
use mathlib.Core.Path.{ap}
use Rattle.std.proofs.lemmas.Result.{err_from_is_err_and}
use Rattle.std.specs.Prelude.{Ok}
use Rattle.state.specs.State.{states_equal}
use Rattle.state.proofs.states_equal.Goals as goal

pub returns-in_err-both : goal.returns-in_err-both
unfolding states_equal
returns-in_err-both c =
    let p = err_from_is_err_and c.from_residual.result c.from_residual.ensures.1 in
    rw (← c.check.ensures, ← c.check-2.ensures, ← c.in_err-both.ensures, p.1, p.2)

pub returns : goal.returns
unfolding states_equal
returns c = rw (← c.check.ensures, ← c.check-2.ensures, ← c.in_ok-both.ensures) (ap Ok c.same.ensures)

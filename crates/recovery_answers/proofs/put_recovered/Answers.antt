-- `recovery_answers::put_recovered` meets its contract: the marks and three numbers, one after the other. Assumes nothing.
use mathlib.Core.Path.{◌∙◌}
use Rattle.recovery_answers.proofs.Lent.{recovered_written}
use Rattle.recovery_answers.proofs.put_recovered.Goals as goal

pub returns : goal.returns
returns c =
    let a = c.args in
    c.put_u64-3.ensures
    ∙ rw (c.action_code.ensures, c.put_u64-2.ensures, c.put_u64.ensures, c.put_marks.ensures) (recovered_written a.d.now a.r)

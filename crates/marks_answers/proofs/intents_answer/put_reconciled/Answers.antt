-- `marks_answers::intents_answer::put_reconciled` meets its contract: three numbers, one after the other. Assumes nothing.
use mathlib.Core.Path.{◌∙◌}
use Rattle.marks_answers.proofs.Words.{reconciled_written}
use Rattle.marks_answers.proofs.intents_answer.put_reconciled.Goals as goal

pub returns : goal.returns
returns c =
    let a = c.args in
    c.put_u64-3.ensures ∙ rw (c.put_u64-2.ensures, c.put_u64.ensures) (reconciled_written a.d.now a.r)

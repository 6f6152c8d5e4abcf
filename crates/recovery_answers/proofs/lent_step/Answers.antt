-- `recovery_answers::lent_step` meets its contract: by whether the marks are a record. Assumes nothing.
use mathlib.Core.Path.{sym, ◌∙◌}
use Rattle.recovery_answers.proofs.Lent.{marks_length}
use Rattle.recovery_answers.proofs.lent_step.Goals as goal

pub put_stepped-requires : goal.put_stepped-requires
put_stepped-requires c =
    marks_length _ (sym c.marks_ok.ensures ∙ c.if-not-marks_ok.false)

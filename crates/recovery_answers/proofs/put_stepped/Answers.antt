-- `recovery_answers::put_stepped` meets its contract: by the room, and whether an event was stepped. Assumes nothing.
use mathlib.Core.Path.{sym, ◌∙◌}
use Rattle.recovery_answers.proofs.Lent.{kept_short, altered, record_written, record_stepped, record_kept}
use Rattle.recovery_answers.proofs.put_stepped.Goals as goal

pub returns-then-room-lt16 : goal.returns-then-room-lt16
returns-then-room-lt16 c = kept_short c.args.room _ _ c.if-room-lt16.true

pub returns-then-unwrap_or : goal.returns-then-unwrap_or
returns-then-unwrap_or c =
    let a = c.args in
    c.put_marks.ensures ∙ record_written a.marks.now a.m c.requires ∙ record_stepped a.s a.marks.now a.m (sym c.unwrap_or.ensures ∙ c.if-unwrap_or.true)
    ∙ altered a.room _ _ c.if-room-lt16.false

pub returns-else-unwrap_or : goal.returns-else-unwrap_or
returns-else-unwrap_or c =
    let a = c.args in
    record_kept a.s a.marks.now a.m (sym c.unwrap_or.ensures ∙ c.if-unwrap_or.false) ∙ altered a.room _ _ c.if-room-lt16.false

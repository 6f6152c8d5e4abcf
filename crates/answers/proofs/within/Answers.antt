-- `answers::within` meets its contract: by the room. Assumes nothing.
use mathlib.Core.Path.{◌∙◌}
use lib.ListN.{length}
use Rattle.answers.proofs.Given.{short_number, short_bytes, roomy_number, roomy_bytes}
use Rattle.answers.proofs.within.Goals as goal

pub returns-then-answer-size : goal.returns-then-answer-size
returns-then-answer-size c =
    let a = c.args in
    let room = length a.answer.now in
    (c.without_room.ensures ∙ short_number a.size a.refusal room c.if-answer-size.true, c.clear.ensures ∙ short_bytes a.size room c.if-answer-size.true _ _)

pub returns : goal.returns
returns c =
    let a = c.args in
    let room = length a.answer.now in
    (roomy_number a.size a.refusal room c.if-answer-size.false, roomy_bytes a.size room c.if-answer-size.false _ _)

-- `answers::without_room` meets its contract: by whether there is a refusal. Assumes nothing.
use borrow.Author.Tests.{ne_eqb}
use Rattle.answers.specs.Answer.{room_number}
use Rattle.answers.proofs.without_room.Goals as goal

pub returns-then-refusal-eq0 : goal.returns-then-refusal-eq0
unfolding room_number
returns-then-refusal-eq0 c = rw c.if-refusal-eq0.true

pub returns-else-refusal-eq0 : goal.returns-else-refusal-eq0
unfolding room_number
returns-else-refusal-eq0 c = rw (ne_eqb _ _ c.if-refusal-eq0.false)

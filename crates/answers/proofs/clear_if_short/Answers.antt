-- `answers::clear_if_short` meets its contract: by the room. Assumes nothing.
use mathlib.Core.Path.{◌∙◌}
use Rattle.answers.proofs.Given.{short_bytes, roomy_bytes}
use Rattle.answers.proofs.clear_if_short.Goals as goal

pub returns-then-room-size : goal.returns-then-room-size
returns-then-room-size c =
    c.clear.ensures ∙ short_bytes c.args.size c.args.room c.if-room-size.true _ _

pub returns-else-room-size : goal.returns-else-room-size
returns-else-room-size c = roomy_bytes c.args.size c.args.room c.if-room-size.false _ _

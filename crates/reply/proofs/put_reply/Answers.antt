-- `reply::put_reply`: by the case.
use mathlib.Core.Path.{sym, ◌∙◌}
use Rattle.reply.specs.Reply.{reply_text}
use Rattle.reply.proofs.put_reply.Goals as goal

pub returns-in-Ok : goal.returns-in-Ok
unfolding reply_text
returns-in-Ok c = rw (sym c.files_layout.ensures ∙ c.in-Ok.is) c.put_book.ensures

pub returns-in-Err : goal.returns-in-Err
unfolding reply_text
returns-in-Err c = rw (sym c.files_layout.ensures ∙ c.in-Err.is) c.put_refused.ensures

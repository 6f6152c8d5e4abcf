-- `reply::text::put_refused`: one line.
use Rattle.reply.specs.Text.{refused_line}
use Rattle.reply.proofs.text.put_refused.Goals as goal

pub returns : goal.returns
unfolding refused_line
returns c = let t = c.put_line.ensures in rw (← c.from.ensures) (t.0, t.1)

-- `reply::text::put_action`: by the case.
use native.Mathlib.Omega.{arith}
use Rattle.reply.specs.Text.{action_line}
use Rattle.reply.proofs.text.put_action.Goals as goal

pub returns-in-Restart : goal.returns-in-Restart
unfolding action_line
returns-in-Restart c = let t = c.put_text.ensures in rw c.in-Restart.is (t.0, t.1, omega arith)

pub returns-in-Resume : goal.returns-in-Resume
unfolding action_line
returns-in-Resume c = let t = c.put_text-in-Resume.ensures in rw c.in-Resume.is (t.0, t.1, omega arith)

pub returns-in-ManualReview : goal.returns-in-ManualReview
unfolding action_line
returns-in-ManualReview c = let t = c.put_text-in-ManualReview.ensures in rw c.in-ManualReview.is (t.0, t.1, omega arith)

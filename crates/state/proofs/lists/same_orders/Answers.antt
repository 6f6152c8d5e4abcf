-- `lists::same_orders`: what the chain answers.
use Rattle.std.proofs.Common.{rules}
use Rattle.records.specs.Record.{order_of}
use Rattle.state.specs.State.{same_order}
use Rattle.state.proofs.Tables.{lists_differ, lists_from_all}
use Rattle.state.proofs.lists.same_orders.Goals as goal

pub returns-then-n-b : goal.returns-then-n-b
returns-then-n-b c = lists_from_all (same_order c.args.s.now c.args.t.now) order_of 64 c.args.a.now c.args.b.now c.if-n-b.true c.all.ensures.ran (λ i b q k. search rules)

pub returns-else-n-b : goal.returns-else-n-b
returns-else-n-b c = lists_differ (same_order c.args.s.now c.args.t.now) order_of 64 _ _ c.args.a.now c.args.b.now c.if-n-b.false

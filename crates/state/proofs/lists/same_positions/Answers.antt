-- `lists::same_positions`: what the chain answers.
use Rattle.std.proofs.Common.{rules}
use Rattle.records.specs.Record.{position_of}
use Rattle.state.specs.State.{same_position}
use Rattle.state.proofs.Tables.{lists_differ, lists_from_all}
use Rattle.state.proofs.lists.same_positions.Goals as goal

pub returns-then-n-b : goal.returns-then-n-b
returns-then-n-b c = lists_from_all same_position position_of 32 c.args.a.now c.args.b.now c.if-n-b.true c.all.ensures.ran (λ i b q k. search rules)

pub returns-else-n-b : goal.returns-else-n-b
returns-else-n-b c = lists_differ same_position position_of 32 _ _ c.args.a.now c.args.b.now c.if-n-b.false

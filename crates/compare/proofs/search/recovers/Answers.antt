-- `search::recovers`: what the chain answers.
use lib.Dec.{eqb}
use Rattle.std.proofs.Common.{rules}
use Rattle.types.specs.Order.{sign_extended}
use Rattle.records.specs.Record.{order_of}
use Rattle.records.specs.declared.order.Order.{Order}
use Rattle.records.proofs.Chains.{any_where_from_any}
use Rattle.compare.proofs.search.recovers.Goals as goal

pub returns : goal.returns
returns c =
    any_where_from_any (λ (o : Order). eqb (sign_extended o.id) c.args.id.0) order_of 64 c.args.orders.now c.any.ensures.ran (λ i b q k. search rules)

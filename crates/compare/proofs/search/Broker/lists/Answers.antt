-- `search::Broker::lists`: what the chain answers.
use Prim.Native.Nat.{◌*◌, ◌≤◌}
use native.Mathlib.Omega.{arith}
use lib.Dec.{eqb}
use lib.ListN.{length, length-drop}
use Rattle.std.proofs.Common.{rules}
use Rattle.std.proofs.lemmas.Iterator.{serves_from_Range}
use Rattle.sheet.specs.Sheet.{broker_order_of, sheet_orders}
use Rattle.sheet.specs.declared.BrokerOrderStatus.{BrokerOrderStatus}
use Rattle.records.proofs.Chains.{any_where_from_any}
use Rattle.compare.proofs.search.Broker.lists.Goals as goal

pub any-requires-clause-callable : goal.any-requires-clause-callable
any-requires-clause-callable c =
    let fits : 24 * c.order_count-n.result ≤ length c.rest-table.result.now = rw (c.rest-table.ensures, length-drop, c.order_count-n.ensures) (omega arith) in
    serves_from_Range (λ x q k. search rules) (λ x low high. search rules)

pub returns : goal.returns
unfolding sheet_orders
returns c =
    rw (← c.rest-table.ensures, ← c.order_count-n.ensures)
    (any_where_from_any (λ (b : BrokerOrderStatus). eqb c.args.id b.id.0) broker_order_of 24 c.rest-table.result.now c.any.ensures.ran (λ i b q k. search rules))

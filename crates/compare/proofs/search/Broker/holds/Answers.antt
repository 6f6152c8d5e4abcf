-- `search::Broker::holds`: what the chain answers.
use Prim.Native.Nat.{◌*◌, ◌≤◌}
use native.Mathlib.Omega.{arith}
use lib.ListN.{length, length-drop}
use Rattle.std.proofs.Common.{rules}
use Rattle.std.proofs.lemmas.Iterator.{serves_from_Range}
use Rattle.symbol.specs.Symbol.{same_symbol}
use Rattle.sheet.specs.Sheet.{broker_position_of, sheet_positions}
use Rattle.sheet.specs.declared.BrokerPosition.{BrokerPosition}
use Rattle.records.proofs.Chains.{any_where_from_any}
use Rattle.compare.proofs.search.Broker.holds.Goals as goal

pub any-requires-clause-callable : goal.any-requires-clause-callable
any-requires-clause-callable c =
    let fits : 24 * c.position_count.result ≤ length c.rest-table.result.now =
    rw (c.rest-table.ensures, length-drop, c.order_count.ensures, c.position_count.ensures) (omega arith) in
    serves_from_Range (λ x q k. search rules) (λ x low high. search rules)

pub returns : goal.returns
unfolding sheet_positions
returns c =
    rw (← c.order_count.ensures, ← c.rest-table.ensures, ← c.position_count.ensures)
    (any_where_from_any (λ (b : BrokerPosition). same_symbol b.symbol c.args.y) broker_position_of 24 c.rest-table.result.now c.any.ensures.ran (λ i b q k. search rules))

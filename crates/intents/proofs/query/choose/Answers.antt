-- `query::choose`: the id of the order that the chain finds.
use Prim.Native.Nat.{◌*◌}
use mathlib.Core.Path.{refl, ◌∙◌}
use lib.Dec.{ltb}
use lib.ListN.{drop}
use lib.Seq.{drop-drop}
use Rattle.std.proofs.Common.{rules}
use Rattle.sheet.specs.Sheet.{broker_order_of, sheet_orders}
use Rattle.sheet.specs.declared.BrokerOrderStatus.{BrokerOrderStatus}
use Rattle.records.proofs.Firsts.{taken_from_find}
use Rattle.intents.specs.Intents.{chosen}
use Rattle.intents.proofs.query.choose.Goals as goal

pub returns-in_err-i : goal.returns-in_err-i
unfolding chosen sheet_orders
returns-in_err-i c =
    let s = c.args.sheet.now in
    let e = taken_from_find (λ (b : BrokerOrderStatus). ltb 0 b.remaining) (λ (b : BrokerOrderStatus). b.id) chosen refl (λ x xs. refl) broker_order_of 24 (drop 24 s) _
    c.find.result c.find.ensures.ran (λ i b q k. rw (drop-drop (24 * i) 24 s) (search rules)) in
    rw (← c.order_count.ensures) (c.from_residual.ensures ∙ (rw c.in_err-i.was at e))

pub returns : goal.returns
unfolding chosen sheet_orders
returns c =
    let s = c.args.sheet.now in
    let e = taken_from_find (λ (b : BrokerOrderStatus). ltb 0 b.remaining) (λ (b : BrokerOrderStatus). b.id) chosen refl (λ x xs. refl) broker_order_of 24 (drop 24 s) _
    c.find.result c.find.ensures.ran (λ i b q k. rw (drop-drop (24 * i) 24 s) (search rules)) in
    rw (← c.order_count.ensures, c.order_id_at.ensures, ← drop-drop (24 * c.in_ok-i.i) 24 s) (rw c.in_ok-i.was at e)

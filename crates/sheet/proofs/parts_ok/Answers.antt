-- `sheet::parts_ok`: the header's test and that of the orders together, then that of the positions.
use mathlib.Core.Path.{◌≡◌, sym, ◌∙◌}
use mathlib.Core.Bool.{true, false, ◌&&◌}
use Rattle.wire.specs.Table.{every}
use Rattle.sheet.specs.Sheet.{order_count, orders_in, broker_order_ok, header_ok, parts_ok}
use Rattle.sheet.proofs.parts_ok.Goals.{then-header_ok, else-header_ok}
use Rattle.sheet.proofs.parts_ok.Goals as goal

pub returns-then-orders_ok : goal.returns-then-orders_ok
unfolding parts_ok
returns-then-orders_ok c =
    let s = c.args.sheet.now in
    let two : (header_ok s && every broker_order_ok 24 (order_count s) (orders_in s)) ≡ true = elim c.if-header_ok.branch [
      | then-header_ok w ↦
          rw (← c.header_ok.ensures, w.if-header_ok.true, ← c.order_count-orders.ensures, ← w.from.ensures, ← w.orders_ok.ensures) (sym w.value-is ∙ c.if-orders_ok.true)
      | else-header_ok w ↦ rw (← c.header_ok.ensures, w.if-header_ok.false) (sym (w.value-is ∙ w.if-header_ok.false) ∙ c.if-orders_ok.true)
    ] in
    rw two (cc)

pub returns-else-orders_ok : goal.returns-else-orders_ok
unfolding parts_ok
returns-else-orders_ok c =
    let s = c.args.sheet.now in
    let two : (header_ok s && every broker_order_ok 24 (order_count s) (orders_in s)) ≡ false = elim c.if-header_ok.branch [
      | then-header_ok w ↦
          rw (← c.header_ok.ensures, w.if-header_ok.true, ← c.order_count-orders.ensures, ← w.from.ensures, ← w.orders_ok.ensures) (sym w.value-is ∙ c.if-orders_ok.false)
      | else-header_ok w ↦ rw (← c.header_ok.ensures, w.if-header_ok.false)
    ] in
    rw two c.if-orders_ok.false

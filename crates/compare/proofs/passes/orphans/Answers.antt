-- `passes::orphans`: a pass, by the record at each place.
use Prim.Native.Nat.{◌*◌}
use lib.ListN.{drop}
use lib.Seq.{drop-drop}
use Rattle.std.proofs.Common.{rules}
use Rattle.records.specs.Record.{orders_in}
use Rattle.sheet.specs.Sheet.{broker_order_of, sheet_orders}
use Rattle.compare.specs.Report.{orphan}
use Rattle.compare.proofs.Adding.{pass_added}
use Rattle.compare.proofs.passes.orphans.Goals as goal

pub returns : goal.returns
unfolding sheet_orders
returns c =
    let s = c.args.broker.sheet.now in
    rw (← c.order_count-m.ensures)
    (pass_added (orphan (orders_in c.args.orders.now)) broker_order_of 24 c.order_count-m.result (drop 24 s) c.pass.ensures
    (λ i x h e. rw (drop-drop (24 * i) 24 s) (search rules)))

-- `marks::Marks::recovery_action`: by the length and the layout's case.
use mathlib.Core.Path.{ap}
use lib.ListN.{length}
use borrow.Author.Tests.{le-leb, lt-leb}
use Rattle.std.proofs.lemmas.Result.{err_from_is_err_and}
use Rattle.marks.specs.Action.{queried_action, action_of, lent_action}
use Rattle.marks.proofs.Marks.recovery_action.Goals as goal
use Rattle.std.specs.Prelude.{Ok}

pub returns-then-orders-ge274877906944 : goal.returns-then-orders-ge274877906944
unfolding lent_action
returns-then-orders-ge274877906944 c = rw (le-leb 274877906944 (length c.args.orders.now) c.if-orders-ge274877906944.true)

pub returns-in_err-check_orders : goal.returns-in_err-check_orders
unfolding lent_action
returns-in_err-check_orders c =
    let p = err_from_is_err_and c.from_residual.result c.from_residual.ensures.1 in
    rw (lt-leb 274877906944 (length c.args.orders.now) c.if-orders-ge274877906944.false, ← c.in_err-check_orders.ensures, p.1, p.2)

pub returns : goal.returns
unfolding lent_action action_of queried_action
returns c =
    rw (lt-leb 274877906944 (length c.args.orders.now) c.if-orders-ge274877906944.false, ← c.in_ok-check_orders.ensures) (ap Ok c.determine_recovery_action.ensures)

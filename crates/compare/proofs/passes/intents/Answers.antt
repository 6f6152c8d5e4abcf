-- `passes::intents`: a pass, by the record at each place.
use Prim.Native.Nat.{◌/◌}
use lib.ListN.{length}
use Rattle.std.proofs.Common.{rules}
use Rattle.records.specs.Record.{order_of}
use Rattle.compare.specs.Report.{intent}
use Rattle.compare.proofs.Adding.{pass_added}
use Rattle.compare.proofs.passes.intents.Goals as goal

pub returns : goal.returns
returns c =
    let s = c.args.orders.now in
    pass_added intent order_of 64 (length s / 64) s c.pass.ensures (λ i x h e. search rules)

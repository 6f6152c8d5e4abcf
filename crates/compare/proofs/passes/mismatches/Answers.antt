-- `passes::mismatches`: a pass, by the record at each place.
use Prim.Native.Nat.{◌+◌, ◌*◌}
use lib.ListN.{drop}
use lib.Seq.{drop-drop}
use Rattle.std.proofs.Common.{rules}
use Rattle.records.specs.Record.{positions_in}
use Rattle.sheet.specs.Sheet.{broker_position_of, order_count, sheet_positions}
use Rattle.compare.specs.Report.{mismatch}
use Rattle.compare.proofs.Adding.{pass_added}
use Rattle.compare.proofs.passes.mismatches.Goals as goal

pub returns : goal.returns
unfolding sheet_positions
returns c =
    let s = c.args.broker.sheet.now in
    let first = 24 + 24 * order_count s in
    rw (← c.position_count-m.ensures)
    (pass_added (mismatch (positions_in c.args.positions.now)) broker_position_of 24 c.position_count-m.result (drop first s) c.pass.ensures
    (λ i x h e. rw (drop-drop (24 * i) first s) (search rules)))

-- `passes::unlisted_positions`: a pass, by the record at each place.
use Prim.Native.Nat.{◌/◌}
use lib.ListN.{length}
use Rattle.std.proofs.Common.{rules}
use Rattle.records.specs.Record.{position_of}
use Rattle.sheet.specs.Sheet.{sheet_positions}
use Rattle.compare.specs.Report.{unlisted}
use Rattle.compare.proofs.Adding.{pass_added}
use Rattle.compare.proofs.passes.unlisted_positions.Goals as goal

pub returns : goal.returns
returns c =
    let s = c.args.positions.now in
    pass_added (unlisted (sheet_positions c.args.broker.sheet.now)) position_of 32 (length s / 32) s c.pass.ensures (λ i x h e. search rules)

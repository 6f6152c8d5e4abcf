-- `report::Table::put_entries`: what is left of the lines decides, is summed on, and is written after what is.
use Prim.Native.Nat.{◌*◌}
use mathlib.Core.Path.{◌≡◌}
use mathlib.Core.List.{map}
use lib.Ieee.{binary64, of_bits}
use lib.Seq.{sets}
use Rattle.wire.specs.Table.{encoded}
use Rattle.drift.specs.Symbols.{all_where}
use Rattle.drift.specs.Entry.{line_entry, line_fits, line_bytes}
use Rattle.drift.specs.Report.{squares}
use Rattle.drift.specs.Code.{line_at, lines_at}
use Rattle.drift.proofs.Runs.{left}
use Rattle.drift.proofs.table.Table.put_entries.Given as goal

abbrev pub invariant-loop-k : goal.invariant-loop-k
invariant-loop-k g l =
    let line = line_at l.self.keys l.self.quantities l.self.weights l.self.costs in
    let lines = lines_at l.self.keys l.self.quantities l.self.weights l.self.costs l.n in
    (all_where (line_fits l.equity) lines ≡ all_where (line_fits l.equity) (left line l.n l.k))
    × (squares l.sum (map (line_entry l.equity) (left line l.n l.k)) ≡ squares (of_bits binary64 0) (map (line_entry l.equity) lines))
    × (sets l.entries (64 * l.k) (encoded (line_bytes l.equity) (left line l.n l.k)) ≡ sets l.initial.entries 0 (encoded (line_bytes l.equity) lines))

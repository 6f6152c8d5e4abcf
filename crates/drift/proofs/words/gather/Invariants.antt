-- `words::gather`: the symbols of the rows from i on are to be put in place.
use Prim.Native.Nat.{◌+◌, ◌≤◌}
use mathlib.Core.Path.{◌≡◌}
use lib.Dec.{ltb}
use lib.ListN.{take}
use Rattle.wire.specs.Table.{records}
use Rattle.records.proofs.Walk.{rest}
use Rattle.drift.specs.Rows.{row_of}
use Rattle.drift.specs.Symbols.{sorted_with}
use Rattle.drift.specs.Code.{Rising, keys_of}
use Rattle.drift.proofs.words.gather.Given as goal

abbrev pub invariant-loop-i : goal.invariant-loop-i
invariant-loop-i l = (l.taken ≤ l.n + l.i) × Rising (take l.taken l.keys)
    × (sorted_with ltb (take l.taken l.keys) (keys_of (rest row_of l.rows.width l.rows.count l.rows.bytes.now l.i)) ≡ sorted_with ltb (take l.n l.initial.keys) (keys_of (records row_of l.rows.width l.rows.count l.rows.bytes.now)))

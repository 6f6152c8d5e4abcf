-- `words::last_values`: what the rows from i on say is to be noted.
use Prim.Native.Nat.{ℕ, ◌<◌}
use mathlib.Core.Path.{◌≡◌}
use lib.ListN.{length, get_or}
use Rattle.wire.specs.Table.{records}
use Rattle.records.proofs.Walk.{rest}
use Rattle.drift.specs.Rows.{row_of}
use Rattle.drift.specs.Code.{last_bits}
use Rattle.drift.proofs.words.last_values.Given as goal

abbrev pub invariant-loop-i : goal.invariant-loop-i
invariant-loop-i l =
    (k : ℕ) → k < length l.keys
    → last_bits (get_or l.values k 0) (get_or l.keys k 0) (rest row_of l.rows.width l.rows.count l.rows.bytes.now l.i)
    ≡ last_bits (get_or l.initial.values k 0) (get_or l.keys k 0) (records row_of l.rows.width l.rows.count l.rows.bytes.now)

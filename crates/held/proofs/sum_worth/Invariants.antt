-- `held::sum_worth`: what was added and what is left come to the whole, and the sum is within its bounds.
use Prim.Native.Nat.{◌*◌}
use mathlib.Core.Path.{◌≡◌}
use mathlib.Core.List.{[], map}
use lib.IntN.{pos, neg_ℤ, ◌+ℤ◌}
use lib.Signed.{◌≤ℤ◌}
use lib.ListN.{length}
use Rattle.drift.specs.Symbols.{all_where}
use Rattle.drift.specs.Entry.{fits64}
use Rattle.held.specs.Value.{worth, total}
use Rattle.drift.specs.Code.{line_at, lines_at}
use Rattle.drift.proofs.Runs.{left}
use Rattle.held.proofs.sum_worth.Given as goal

abbrev pub invariant-loop-k : goal.invariant-loop-k
invariant-loop-k l =
    let line = line_at [] l.quantities [] l.costs in
    let n = length l.quantities in
    (all_where fits64 (map worth (lines_at [] l.quantities [] l.costs n)) ≡ all_where fits64 (map worth (left line n l.k)))
    × (l.sum +ℤ total (map worth (left line n l.k)) ≡ total (map worth (lines_at [] l.quantities [] l.costs n)))
    × (neg_ℤ (pos (l.k * 0x8000_0000_0000_0000)) ≤ℤ l.sum) × (l.sum ≤ℤ pos (l.k * 0x8000_0000_0000_0000))

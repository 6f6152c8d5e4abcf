-- `words::place`: the search begins with all and ends with none.
use Prim.Native.Nat.{◌+◌}
use lib.ListN.{length}
use Rattle.drift.specs.Code.{Within}
use Rattle.drift.proofs.words.place.Given as goal

abbrev pub invariant-loop-size : goal.invariant-loop-size
invariant-loop-size l = Within l.keys (length l.keys) l.x l.low (l.low + l.size)

abbrev pub decreases-loop-size : goal.decreases-loop-size
decreases-loop-size l = l.size

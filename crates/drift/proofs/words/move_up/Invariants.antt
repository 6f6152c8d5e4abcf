-- `words::move_up`: the elements from j on stand one place up.
use mathlib.Core.Path.{◌≡◌}
use lib.ListN.{length}
use Prim.Native.Nat.{◌-◌}
use Rattle.drift.proofs.Opened.{opened}
use Rattle.drift.proofs.words.move_up.Given as goal

abbrev pub invariant-loop-j : goal.invariant-loop-j
invariant-loop-j l = l.keys ≡ opened l.initial.keys (length l.initial.keys - 1) (l.j - 1)

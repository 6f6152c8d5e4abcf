-- `wire::put`: what is still to be written, put after what is, is what was asked for.
use mathlib.Core.Path.{◌≡◌}
use Prim.Native.Nat.{◌-◌}
use lib.Seq.{sets}
use Rattle.wire.specs.Le.{bytes_of}
use Rattle.wire.proofs.put.Given as goal

abbrev pub invariant-loop-i : goal.invariant-loop-i
invariant-loop-i l = sets l.initial.d l.at (bytes_of l.n l.x) ≡ sets l.d l.i (bytes_of (l.n - (l.i - l.at)) l.rest)

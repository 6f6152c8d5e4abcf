-- `lines::put_digits`: the digits still to be written, put before those that are, are the whole.
use Prim.Native.Nat.{◌^◌, ◌≤◌, ◌<◌}
use mathlib.Core.Path.{◌≡◌}
use mathlib.Core.List.{◌++◌}
use lib.ListN.{length, drop}
use Rattle.lines.specs.Lines.{digits}
use Rattle.lines.proofs.put_digits.Given as goal

abbrev pub invariant-loop-rest : goal.invariant-loop-rest
invariant-loop-rest l = (length l.d ≡ 20) × (l.first ≤ 20) × (0 < l.first) × (l.rest < 10 ^ l.first) × (digits l.first l.rest ++ drop l.first l.d ≡ digits 20 l.n)

abbrev pub decreases-loop-rest : goal.decreases-loop-rest
decreases-loop-rest l = l.first

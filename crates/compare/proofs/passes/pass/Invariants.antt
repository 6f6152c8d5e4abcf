-- `passes::pass`: what the first i places add was added.
use Prim.Native.Nat.{ℕ, ◌<◌}
use mathlib.Core.Path.{◌≡◌}
use Rattle.std.specs.Prelude.{Option, Ok}
use Rattle.compare.specs.Buffer.{Adds, places}
use Rattle.compare.specs.declared.discrepancy.Discrepancy.{Discrepancy}
use Rattle.compare.proofs.passes.pass.Given as goal

abbrev pub invariant-loop-i : goal.invariant-loop-i
invariant-loop-i g l =
    (k : ℕ → Option Discrepancy) → ((i : ℕ) (x : Option Discrepancy) → i < l.m → goal.F-post g l.found i x → x ≡ k i)
    → Adds (places k l.i) l.fn.n l.fn.out (Ok l.n) l.out

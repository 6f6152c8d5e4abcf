-- `report::tracking_error`: the operations in the Rust's order; the code's 100.0 is the f64 of 100.
use mathlib.Core.Path.{ap, ◌∙◌}
use Prim.Native.Nat.{ℕ}
use lib.Ieee.{Float, binary64, mul, div, of_bits, of_int}
use Rattle.float.specs.Root.{sqrt}
use lib.IntN.{pos}
use Rattle.drift.specs.Report.{tracking_error}
use Rattle.drift.proofs.report.tracking_error.Goals as goal

pub returns : goal.returns
unfolding tracking_error of_bits of_int
returns c =
    let q = c.sqrt.ensures ∙ ap (λ (x : Float). sqrt binary64 (div binary64 c.args.sum x)) (c.nearest_u64.ensures ∙ ap (λ (n : ℕ). of_int binary64 (pos n)) c.max.ensures) in
    ap (λ (x : Float). mul binary64 x (of_int binary64 (pos 100))) q

-- `float::bits::is_finite` meets its contract: x is the value of its own bits, and `finite_test` is the test of a pattern. Assumes nothing.
use Rattle.std.proofs.Common.{T, sym, ap, ◌∙◌, subst}
use lib.Ieee.{binary64, of_bits, fits}
use lib.Ieee.Bits.{of_bits-to_bits}
use Rattle.float.specs.Bits.{is_finite}
use Rattle.float.proofs.Patterns.{finite_test}
use Rattle.float.proofs.bits.is_finite.Goals as goal

pub returns : goal.returns
returns c =
    -- an f64 is a value that the format holds
    let held : T (fits binary64 c.args.x) = subst T (sym c.well_formed.0.1) tt in
    finite_test c.to_bits.result
    ∙ ap is_finite (ap (of_bits binary64) c.to_bits.ensures ∙ of_bits-to_bits binary64 c.args.x (held))

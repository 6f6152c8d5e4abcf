-- `types::fixed::f64_cents_checked` meets its contract: the code's 100.0 is the f64 of 100. Assumes nothing.
use lib.Ieee.{of_bits, of_int}
use Rattle.types.specs.Fixed.{to_cents}
use Rattle.types.proofs.fixed.f64_cents_checked.Goals as goal

pub returns : goal.returns
unfolding to_cents of_bits of_int
returns c = c.f64_to_fixed_checked.ensures

-- `float::bits::to_bits` meets its contract: only a NaN differs from itself. Assumes nothing.
use Rattle.std.proofs.Common.{◌≡◌, ℕ, T, sym, refl, subst}
use lib.Ieee.{nan, binary64, to_bits}
use lib.Ieee.Compare.{differs_from_itself}
use Rattle.float.proofs.Patterns.{same_fine}
use Rattle.float.proofs.bits.to_bits.Goals as goal

of_nan : ◌≡◌ {A = ℕ} 0x7ff8_0000_0000_0000 (to_bits binary64 nan)
unfolding to_bits
of_nan = refl

pub float_to_bits-result : goal.float_to_bits-result
float_to_bits-result c = same_fine c.args.x c.if-x.false

pub returns-then-x : goal.returns-then-x
returns-then-x c = rw (differs_from_itself c.args.x (subst T (sym c.if-x.true) tt)) of_nan

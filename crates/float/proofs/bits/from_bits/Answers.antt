-- `float::bits::from_bits` meets its contract: a pattern up to an infinity's is no NaN's, and each one above it is. Assumes nothing.
use Rattle.std.proofs.Common.{◌≡◌, sym, refl, ◌∙◌}
use lib.Ieee.{nan, binary64, div, of_bits}
use Rattle.float.proofs.Patterns.{pattern_nan, pattern_fine}
use Rattle.float.proofs.bits.from_bits.Goals as goal

zero_by_zero : div binary64 (of_bits binary64 0) (of_bits binary64 0) ≡ nan
unfolding div of_bits
zero_by_zero = refl

pub float_from_bits-result : goal.float_from_bits-result
float_from_bits-result c = pattern_fine c.args.n c.if-n-le9218868437227405312.true

pub returns-else-n-le9218868437227405312 : goal.returns-else-n-le9218868437227405312
returns-else-n-le9218868437227405312 c = zero_by_zero ∙ sym (pattern_nan c.args.n c.if-n-le9218868437227405312.false)

-- Numbers in decimal digits, by computation. About no function.
-- Assumes nothing.
use mathlib.Core.Path.{◌≡◌, refl}
use Rattle.checkpoint.specs.Checkpoint.{ascii}
use Rattle.lines.specs.Lines.{digits, decimal}

zero_digit : decimal 0 ≡ ascii "0"
unfolding digits
zero_digit = refl

ten : decimal 10 ≡ ascii "10"
unfolding digits
ten = refl

largest : decimal 18446744073709551615 ≡ ascii "18446744073709551615"
unfolding digits
largest = refl

-- `types::fixed::f64_to_fixed_checked` meets its contract: the product, which the format holds, is the value of its own bits. Assumes nothing.
use mathlib.Core.Path.{sym, ap, ◌∙◌}
use mathlib.Core.Bool.{Bool}
use lib.Ieee.{Float, binary64, of_bits, mul}
use lib.Ieee.Bits.{of_bits-to_bits}
use lib.Ieee.Fits.{mul-fits}
use Rattle.types.specs.Fixed.{round_away, in_range, if_finite, to_fixed}
use Rattle.types.proofs.fixed.f64_to_fixed_checked.Goals as goal
use Rattle.std.specs.Prelude.{Result, ℤ}
use Rattle.wire.specs.declared.refusal.Refusal.{Refusal}

-- the steps after the multiplication
abbrev steps : Float → Result ℤ Refusal
steps x = in_range (round_away binary64 x)

pub returns-then-is_finite : goal.returns-then-is_finite
unfolding to_fixed
returns-then-is_finite c =
    let p = mul binary64 c.args.value c.args.scale in
    c.rounded.ensures
    ∙ ap steps (ap (of_bits binary64) c.to_bits.ensures ∙ of_bits-to_bits binary64 p (mul-fits binary64 c.args.value c.args.scale))
    ∙ sym (ap (λ (b : Bool). if_finite b (steps p)) (sym c.is_finite.ensures ∙ c.if-is_finite.true))

pub returns-else-is_finite : goal.returns-else-is_finite
unfolding to_fixed
returns-else-is_finite c =
    let p = mul binary64 c.args.value c.args.scale in
    sym (ap (λ (b : Bool). if_finite b (steps p)) (sym c.is_finite.ensures ∙ c.if-is_finite.false))

-- `f64_to_fixed_checked` and `f64_cents_checked`, step by step as the Rust has them. Definitions only.
use Rattle.std.specs.Prelude.{ℕ, ◌+◌, ◌*◌, ◌/◌, Bool, true, false, ◌&&◌, ℤ, pos, Float}
use Rattle.std.specs.Float.{nan, inf, fin, Format, binary64}
use Rattle.std.specs.Float.Ieee.{up, down, round, mul, le, lt, of_int, to_signed}
use Rattle.float.specs.Bits.{is_finite}
pub use Rattle.float.specs.Bits.{lowest, past}
use Rattle.std.specs.Prelude.{Ok, Err, Result}
use Rattle.wire.specs.declared.refusal.Refusal.{Refusal}

-- num / den to the nearest whole number, a half away from zero
abbrev pub away : ℕ → ℕ → ℕ
away num den = (2 * num + den) / (2 * den)

-- Rust's `round`, IEEE 754's roundToIntegralTiesToAway: the exact fraction is rounded, and its sign kept
unfoldable pub round_away : Format → Float → Float
unfolding round
round_away f nan = nan
round_away f (inf s) = inf s
round_away f (fin s m e) = round f s (away (m * up e) (down e)) 1

-- "range from -2^63 up to but excluding 2^63", and the cast
abbrev pub value_if : Bool → ℤ → Result ℤ Refusal
value_if true z = Ok z
value_if false z = (Err Refusal.OutOfRange)

unfoldable pub in_range : Float → Result ℤ Refusal
unfolding le lt to_signed
in_range r = value_if (le lowest r && lt r past) (to_signed 63 r)

-- refusal 9 comes before all else
abbrev pub if_finite : Bool → Result ℤ Refusal → Result ℤ Refusal
if_finite true r = r
if_finite false r = (Err Refusal.NotFinite)

-- `f64_to_fixed_checked`: "One multiply, round half away from zero", the range of the rounded value, the cast
unfoldable pub to_fixed : Float → Float → Result ℤ Refusal
unfolding in_range round_away mul
to_fixed value scale = if_finite (is_finite value) (in_range (round_away binary64 (mul binary64 value scale)))

-- `f64_cents_checked`: the scale is 100.0
unfoldable pub to_cents : Float → Result ℤ Refusal
unfolding to_fixed of_int
to_cents value = to_fixed value (of_int binary64 (pos 100))

-- ---- the value in document 01's answer, 0 where it is refused
abbrev pub fixed_value : Result ℤ Refusal → ℤ
fixed_value (Ok z) = z
fixed_value (Err r) = pos 0

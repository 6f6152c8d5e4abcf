-- What src/bits.rt promises beyond Rattle.std.specs.Float.Ieee's own definitions, and the ends of i64's range. Definitions only.
use Rattle.std.specs.Prelude.{Bool, true, false, pos, Float}
use Rattle.std.specs.Float.{nan, inf, fin}

-- neither an infinity nor a NaN
abbrev pub is_finite : Float → Bool
is_finite nan = false
is_finite (inf s) = false
is_finite (fin s m e) = true

-- -2 ^ 63 and 2 ^ 63
abbrev pub lowest : Float
lowest = fin true 1 (pos 63)

abbrev pub past : Float
past = fin false 1 (pos 63)

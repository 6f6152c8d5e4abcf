-- The definition of the square root, computed at chosen bits; of the root of 4 - 2^-51, that `Nearest` tells it from 2. Assumes nothing.
use Rattle.std.proofs.Common.{◌≡◌, ℕ, ◌*◌, ◌^◌, [], ◌∷◌, map, refl, not-le_of_lt, lit<}
use lib.Ieee.{binary64, of_bits, to_bits}
use Rattle.float.specs.Root.{whole_root, kept, sqrt}
use Rattle.float.specs.Nearest.{Nearest, Rooted, units_of}
use Rattle.float.proofs.RootNear.{near, bits_near}

abbrev root_bits : ℕ → ℕ
root_bits b = to_bits binary64 (sqrt binary64 (of_bits binary64 b))

-- of 2, 0.1, 0.0625, 1 + 2^-52, 4 - 2^-51, the largest value, the least and the largest subnormal, an infinity, -0, -1 and a NaN
pub roots : map root_bits
    (0x4000_0000_0000_0000 ∷ 0x3fb9_9999_9999_999a ∷ 0x3fb0_0000_0000_0000 ∷ 0x3ff0_0000_0000_0001 ∷ 0x400f_ffff_ffff_ffff ∷ 0x7fef_ffff_ffff_ffff ∷ 1
    ∷ 0xf_ffff_ffff_ffff ∷ 0x7ff0_0000_0000_0000 ∷ 0x8000_0000_0000_0000 ∷ 0xbff0_0000_0000_0000 ∷ 0x7ff0_0000_0000_0001 ∷ [])
    ≡ 0x3ff6_a09e_667f_3bcd ∷ 0x3fd4_3d13_6248_490f ∷ 0x3fd0_0000_0000_0000 ∷ 0x3ff0_0000_0000_0000 ∷ 0x3fff_ffff_ffff_ffff ∷ 0x5fef_ffff_ffff_ffff ∷ 0x1e60_0000_0000_0000
    ∷ 0x1fff_ffff_ffff_ffff ∷ 0x7ff0_0000_0000_0000 ∷ 0x8000_0000_0000_0000 ∷ 0x7ff8_0000_0000_0000 ∷ 0x7ff8_0000_0000_0000 ∷ []
unfolding sqrt of_bits to_bits
roots = refl

-- ---- the root of 4 - 2^-51, which is (2^53 - 1) * 2^1023 units, is 2 - 2^-52. 2 is within half of its last place of it too, and is not the nearest.
abbrev pub number : ℕ
number = 0x1f_ffff_ffff_ffff * 2 ^ 1023

pub number_is : units_of 0x400f_ffff_ffff_ffff ≡ number
number_is = refl

pub rooted : Rooted number (sqrt binary64 (of_bits binary64 0x400f_ffff_ffff_ffff))
rooted = bits_near 0x400f_ffff_ffff_ffff (lit< tt) (lit< tt)

pub root_is_nearest : Nearest 53 (number * 2 ^ 1074) (0x1f_ffff_ffff_ffff * 2 ^ 1022)
unfolding kept whole_root
root_is_nearest = near binary64 (number * 2 ^ 1074)

pub two_is_not : Nearest 53 (number * 2 ^ 1074) (2 ^ 1075) → ⊥
two_is_not N = not-le_of_lt (lit< tt) (N.below 0x1f_ffff_ffff_ffff 1022 (lit< tt) (lit< tt))

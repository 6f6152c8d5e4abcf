-- IEEE 754's square root, written as Rattle.std.specs.Float.Ieee's `round` is. `proofs/RootNear.antt` shows that no value of the format is nearer to the root (`Nearest`, in
-- Nearest.antt) and that binary64 holds it. Definitions only.
use Rattle.std.specs.Prelude.{ℕ, zero, suc, ◌+◌, ◌-◌, ◌*◌, ◌/◌, ◌^◌, true, false, cond, nat_le, Float}
use Prim.Native.Nat.{compare}
use Rattle.std.specs.Float.{nan, inf, fin, Format}
use Rattle.std.specs.Float.Ieee.{prec, low, up, down, size, nearest, units}

-- The whole part of the square root of n, for an n below 4 ^ d: that of n / 4 doubled, and one more where its square is still within n.
unfoldable pub isqrt : ℕ → ℕ → ℕ
isqrt zero n = 0
isqrt (suc d) n = let r = 2 * isqrt d (n / 4) in cond (nat_le ((r + 1) * (r + 1)) n) (r + 1) r

unfoldable pub whole_root : ℕ → ℕ
unfolding isqrt size
whole_root n = isqrt (size n) n

-- Of the root's whole part without its k last digits, q, or the next number up: by how the root compares with q and a half, times 2 ^ k, both squared.
unfoldable pub kept : ℕ → ℕ → ℕ
unfolding whole_root
kept n k = let q = whole_root n / 2 ^ k in nearest q (compare (4 * n) ((2 * q + 1) * (2 * q + 1) * (2 ^ k * 2 ^ k)))

-- The value of the format f that is nearest to the square root of n, in units of f's smallest value.
-- Of the root's whole part the format keeps the `prec` leading digits and drops k.
unfoldable pub nearest_root : Format → ℕ → Float
unfolding kept whole_root size units
nearest_root f n = let k = size (whole_root n) - prec f in units f false (kept n k) k

-- IEEE 754's squareRoot: of a negative number a NaN, and of -0 it is -0.
-- In units of the smallest value, 2 ^ -low, the root of m * 2 ^ e is that of m * 2 ^ e * 2 ^ low * 2 ^ low.
unfoldable pub sqrt : Format → Float → Float
unfolding nearest_root
sqrt f nan = nan
sqrt f (inf true) = nan
sqrt f (inf false) = inf false
sqrt f (fin s zero e) = fin s zero e
sqrt f (fin true (suc m) e) = nan
sqrt f (fin false (suc m) e) = nearest_root f (suc m * up e * (2 ^ low f * 2 ^ low f) / down e)

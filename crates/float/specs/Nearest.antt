-- What it means that no value of a format is nearer to a square root. No entry's promise cites this file: `proofs/RootNear.antt` proves `Rooted` of each root
-- that the definition `sqrt` of Root.antt gives. Definitions only.
use Rattle.std.specs.Prelude.{ℕ, zero, suc, ◌+◌, ◌*◌, ◌/◌, ◌%◌, ◌^◌, ◌<◌, ◌≤◌, false, T, Float}
use Rattle.std.specs.Float.{binary64}
use Rattle.std.specs.Float.Ieee.{fits}
use Rattle.std.specs.Float.Ieee.Exact.{HasValue}

-- A format of p digits holds the sizes d * 2 ^ z with d below 2 ^ p, in units of its smallest value. None of them is nearer to the root of n than r is: where one
-- lies below r, the root is not below the middle of the two; where one lies above r, the root is not above it. The middle of v and r is (v + r) / 2, and it is
-- compared with the root by the squares of both, so that all is said of whole numbers. (z has no upper bound: sizes past the largest are no nearer either.)
pub record Nearest (p n r : ℕ) : Type 0 where
  pub below : (d z : ℕ) → d < 2 ^ p → d * 2 ^ z < r → (d * 2 ^ z + r) * (d * 2 ^ z + r) ≤ 4 * n
  pub above : (d z : ℕ) → d < 2 ^ p → r < d * 2 ^ z → 4 * n ≤ (d * 2 ^ z + r) * (d * 2 ^ z + r)

-- y is the square root of a number of a units, 2 ^ -1074 each: it is r units, binary64 holds it, and no value of binary64 is nearer to the root.
-- (a / 2 ^ 1074 has the root r / 2 ^ 1074 where r * r is a * 2 ^ 1074.)
pub record Rooted (a : ℕ) (y : Float) : Type 0 where
  pub root : ℕ
  pub value : HasValue y false root (2 ^ 1074)
  pub held : T (fits binary64 y)
  pub close : Nearest 53 (a * 2 ^ 1074) root

-- how many units the positive finite f64 with the bits b is: its exponent's field, b / 2 ^ 52, and its fraction's
abbrev pub field_units : ℕ → ℕ → ℕ
field_units zero t = t
field_units (suc e) t = (2 ^ 52 + t) * 2 ^ e

abbrev pub units_of : ℕ → ℕ
units_of b = field_units (b / 2 ^ 52) (b % 2 ^ 52)

-- What src/parts.rt promises. No entry's promise cites this file.
use Rattle.std.specs.Prelude.{ℕ, ◌*◌, ◌%◌, ◌^◌, ◌<◌, ◌≤◌, from_bits, nat_le}
use Rattle.std.specs.Float.{binary64}
use Rattle.std.specs.Float.Ieee.Exact.{HasValue}

-- The finite value with the bits n has n's sign and the size d * 2 ^ p / 2 ^ 1074. d has at most 53 digits, and 53 where p is above 0.
pub record Parted (n d p : ℕ) : Type 0 where
  pub value : HasValue (from_bits binary64 n) (nat_le 0x8000_0000_0000_0000 n) (d * 2 ^ p) (2 ^ 1074)
  pub small : d < 2 ^ 53
  pub full : 0 < p → 2 ^ 52 ≤ d
  pub most : p ≤ 2045
  pub some : 0 < n % 0x8000_0000_0000_0000 → 0 < d

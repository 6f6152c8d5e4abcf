-- A sheet's bytes, for examples. About no function.
-- Assumes nothing.
use Rattle.std.specs.Prelude.{ℕ, ◌+◌, ◌*◌, List, ◌++◌}
use Rattle.wire.specs.Le.{bytes_of}

-- a broker's order with so much left
abbrev pub listed : ℕ → ℕ → List ℕ
listed id left = bytes_of 8 id ++ bytes_of 8 left ++ bytes_of 4 1 ++ bytes_of 4 0

-- a sheet of n orders and k positions, neither failed
unfoldable pub sheet_bytes : ℕ → List ℕ → ℕ → List ℕ → List ℕ
sheet_bytes n orders k positions =
    bytes_of 4 n ++ bytes_of 4 24 ++ bytes_of 4 k ++ bytes_of 4 (24 + 24 * n) ++ bytes_of 4 0 ++ bytes_of 4 0 ++ orders ++ positions

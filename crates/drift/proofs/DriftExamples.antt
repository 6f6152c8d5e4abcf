-- The definitions computed: an example of drift, and refusals in their order.
-- Assumes nothing.
use Prim.Native.Nat.{ℕ, ◌*◌, ◌-◌, ◌^◌}
use mathlib.Core.Path.{◌≡◌, refl}
use mathlib.Core.List.{List, [], ◌∷◌, ◌++◌}
use lib.IntN.{ℤ, pos, negsuc}
use lib.Ieee.{binary64, of_bits}
use lib.ListN.{replicate}
use mir.Syntax.{w64}
use mir.Val.{of_z}
use Rattle.wire.specs.Le.{le, bytes_of}
use Rattle.wire.specs.Table.{every, records, encoded, padded}
use Rattle.symbol.specs.Symbol.{symbol_of, wide_field_bytes, wide_field_ok, bytes_before}
use Rattle.wire.specs.Layout.{refused}
use Rattle.drift.specs.Rows.{valued}
use Rattle.drift.specs.Entry.{entry_bytes}
use Rattle.drift.specs.Report.{drifted, drift_of, drift_bytes}
use Rattle.std.specs.Prelude.{Ok}

abbrev pub row : List ℕ → ℕ → List ℕ
row text bits = wide_field_bytes (symbol_of text) ++ bytes_of 8 bits

abbrev pub position : List ℕ → ℤ → List ℕ
position text quantity = row text (of_z w64 quantity) ++ bytes_of 8 7

-- B 3, A -2, A 10; AA 0.25, A 0.5, A -0.125; A 200, B 100, B 150
abbrev positions : List ℕ
positions = position (66 ∷ []) (pos 3) ++ position (65 ∷ []) (negsuc 1) ++ position (65 ∷ []) (pos 10)

abbrev targets : List ℕ
targets = row (65 ∷ 65 ∷ []) 0x3fd0000000000000 ++ row (65 ∷ []) 0x3fe0000000000000 ++ row (65 ∷ []) 0xbfc0000000000000

abbrev prices : List ℕ
prices = row (65 ∷ []) 200 ++ row (66 ∷ []) 100 ++ row (66 ∷ []) 150

-- the last row of a symbol counts, AA stands between A and B, and has no price
drift_answer : drift_of positions targets prices (pos 100000) 200 ≡ Ok (drifted 3 (of_bits binary64 0x4030b0169a17052e))
unfolding drift_of le bytes_of every records wide_field_ok bytes_before valued of_bits
drift_answer = refl

drift_bytes_lem : drift_bytes positions targets prices (pos 100000) 200 ≡
    wide_field_bytes (symbol_of (65 ∷ [])) ++ bytes_of 8 0xbfc0000000000000 ++ bytes_of 8 0x3f947ae147ae147b ++ bytes_of 8 0x3fc28f5c28f5c28f ++ bytes_of 8 (of_z w64 (negsuc 61)) ++ bytes_of 8 (of_z w64 (pos 10)) ++ bytes_of 8 (of_z w64 (pos 72))
    ++ wide_field_bytes (symbol_of (65 ∷ 65 ∷ [])) ++ bytes_of 8 0x3fd0000000000000 ++ bytes_of 8 0x0 ++ bytes_of 8 0xbfd0000000000000 ++ bytes_of 8 (of_z w64 (pos 0)) ++ bytes_of 8 (of_z w64 (pos 0)) ++ bytes_of 8 (of_z w64 (pos 0))
    ++ wide_field_bytes (symbol_of (66 ∷ [])) ++ bytes_of 8 0x0 ++ bytes_of 8 0x3f726e978d4fdf3b ++ bytes_of 8 0x3f726e978d4fdf3b ++ bytes_of 8 (of_z w64 (pos 0)) ++ bytes_of 8 (of_z w64 (pos 3)) ++ bytes_of 8 (of_z w64 (pos 3))
    ++ replicate 8 0
unfolding drift_bytes le bytes_of every records encoded padded wide_field_ok bytes_before valued entry_bytes
drift_bytes_lem = refl

-- ---- refusals in their order: 1 before 2, 11 on a row that is overridden, 12 before 3
drift_oversize : refused (drift_of (replicate (32 * 1025) 0) (0 ∷ []) [] (pos 0) 0) ≡ 1
unfolding drift_of le every wide_field_ok
drift_oversize = refl

drift_rest : refused (drift_of positions (targets ++ (0 ∷ [])) prices (pos 100000) 200) ≡ 2
unfolding drift_of le bytes_of every wide_field_ok
drift_rest = refl

drift_overridden : refused (drift_of [] (row (65 ∷ []) 0x408f480000000000 ++ row (65 ∷ []) 0) [] (pos 0) 200) ≡ 11
unfolding drift_of le bytes_of every records wide_field_ok valued of_bits
drift_overridden = refl

drift_product : refused (drift_of (position (65 ∷ []) (pos (2 ^ 62))) [] (row (65 ∷ []) 4) (pos 1) 0) ≡ 12
unfolding drift_of le bytes_of every records wide_field_ok bytes_before valued
drift_product = refl

-- without equity above 0 the product is not needed
drift_not_needed : refused (drift_of (position (65 ∷ []) (pos (2 ^ 62))) [] (row (65 ∷ []) 4) (pos 0) 63) ≡ 3
unfolding drift_of le bytes_of every records wide_field_ok bytes_before valued
drift_not_needed = refl

-- -2 against 2 ^ 63 - 1 target shares
drift_difference : refused (drift_of (position (65 ∷ []) (negsuc 1)) (row (65 ∷ []) 0x3ff0000000000000) (row (65 ∷ []) 1) (pos (2 ^ 63 - 1)) 64) ≡ 12
unfolding drift_of le bytes_of every records wide_field_ok bytes_before valued of_bits
drift_difference = refl

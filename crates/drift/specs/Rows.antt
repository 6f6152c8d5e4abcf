-- Drift lists, from bytes to values. Each row is a symbol field of 16 bytes and eight bytes at 16: a position's quantity (its cost, after
-- them, is not read), a target's f64, a price's i64.
-- Assumes nothing.
use Rattle.std.specs.Prelude.{ℕ, ◌/◌, List, [], ◌∷◌, ltb, ℤ, Float, length, drop}
use Rattle.std.specs.Float.{binary64}
use Rattle.std.specs.Float.Ieee.{of_bits}
use Rattle.std.specs.Int.{w64}
use Rattle.std.proofs.Common.{to_z}
use Rattle.wire.specs.Le.{le}
use Rattle.wire.specs.Table.{records}
use Rattle.wire.specs.Layout.{oversize_if, sound_if}
use Rattle.symbol.specs.Symbol.{wide_field_ok, field_symbol}
use Rattle.symbol.specs.declared.Symbol.{Symbol}
use Rattle.records.specs.Record.{table_ok}
use Rattle.wire.specs.Layout.{Layout}

-- a row: its symbol, and the number in its eight bytes
abbrev pub row_of : List ℕ → Symbol × ℕ
row_of s = (field_symbol s, le 8 (drop 16 s))

abbrev pub rows_in : ℕ → List ℕ → List (Symbol × ℕ)
rows_in w d = records row_of w (length d / w) d

-- the same rows with what the number stands for
unfoldable pub valued : {B : Type 0} → (ℕ → B) → List (Symbol × ℕ) → List (Symbol × B)
valued f [] = []
valued f (r ∷ rs) = (r.0, f r.1) ∷ valued f rs

abbrev pub held_in : List ℕ → List (Symbol × ℤ)
held_in d = valued (to_z w64) (rows_in 32 d)

abbrev pub targets_in : List ℕ → List (Symbol × Float)
targets_in d = valued (of_bits binary64) (rows_in 24 d)

abbrev pub prices_in : List ℕ → List (Symbol × ℤ)
prices_in d = valued (to_z w64) (rows_in 24 d)

-- refusal 1: more than 1,024 whole rows; refusal 2: a rest after them, or a bad symbol field
unfoldable pub rows_layout : ℕ → List ℕ → Layout
unfolding table_ok
rows_layout w d = oversize_if (ltb 1024 (length d / w)) (sound_if (table_ok wide_field_ok w d))

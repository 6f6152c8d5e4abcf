-- Symbols that a text spells: they are within their type, and their fields pass. About no function.
-- Assumes nothing.
use Prim.Native.Nat.{ℕ, ◌<◌}
use mathlib.Core.Path.{◌≡◌, refl}
use mathlib.Core.List.{List, [], ◌∷◌, ◌++◌}
use mathlib.Core.Bool.{Bool, true, false}
use native.Mathlib.Omega.{arith}
use lib.Dec.{lit<}
use lib.ListN.{length}
use Rattle.wire.proofs.Written.{Bytes, le_lt}
use Rattle.wire.proofs.Written as Byte
use Rattle.symbol.specs.Symbol.{all_of, parses, symbol_of, parsed, parsed_if, unknown_symbol, field_ok, field_bytes, wide_field_ok, wide_field_bytes}
use Rattle.symbol.specs.declared.Symbol.{Symbol}
use Rattle.symbol.proofs.Text.{parses_most}
use Rattle.symbol.proofs.Field.{parsed_field, parsed_wide}
use Rattle.effects.specs.Step.{symbol_or}
use Rattle.effects.proofs.CellFits.{SymbolFits}

-- ---- a symbol that a text spells
pub record Spelt (y : Symbol) : Type 0 where
  pub text : List ℕ
  pub parse : parses text ≡ true
  pub bytes : Bytes text
  pub same : y ≡ symbol_of text

pub spelt_fits : (y : Symbol) → Spelt y → SymbolFits y
spelt_fits y s =
    let m = parses_most s.text s.parse in
    let l : length s.text < 256 = omega arith in
    rw s.same (record { word = le_lt 8 s.text s.bytes; len = l })

pub spelt_field : (y : Symbol) → Spelt y → (u : List ℕ) → field_ok (field_bytes y ++ u) ≡ true
spelt_field y s u = rw s.same (parsed_field s.text u s.parse s.bytes)

pub spelt_wide : (y : Symbol) → Spelt y → (u : List ℕ) → wide_field_ok (wide_field_bytes y ++ u) ≡ true
spelt_wide y s u = rw s.same (parsed_wide s.text u s.parse s.bytes)

pub unknown_spelt : Spelt unknown_symbol
unfolding parses all_of
unknown_spelt =
    record {
      text = 85 ∷ 78 ∷ 75 ∷ 78 ∷ 79 ∷ 87 ∷ 78 ∷ [];
      parse = refl;
      bytes =
          Byte.more (lit< tt)
          (Byte.more (lit< tt) (Byte.more (lit< tt) (Byte.more (lit< tt) (Byte.more (lit< tt) (Byte.more (lit< tt) (Byte.more (lit< tt) Byte.none))))));
      same = refl;
    }

pub parsed_spelt : (t : List ℕ) → Bytes t → Spelt (symbol_or (parsed t))
unfolding parsed
parsed_spelt t b = by (parses t) refl
  where
    by : (v : Bool) → parses t ≡ v → Spelt (symbol_or (parsed_if v t))
    by true e = record { text = t; parse = e; bytes = b; same = refl }
    by false e = unknown_spelt

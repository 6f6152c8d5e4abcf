-- Symbols, as document 01 stands in for the original's: 1 to 8 bytes of A to Z, 0 to 9, '.' and '-'; order by bytes, a prefix first.
-- A symbol is held as the number that its bytes make, least first, and its length.
-- Assumes nothing.
use Rattle.std.specs.Prelude.{ℕ, ◌-◌, List, [], ◌∷◌, ◌++◌, Bool, true, false, ◌&&◌, ◌||◌, eqb, leb, ltb, length, take, drop}
use Rattle.wire.specs.Le.{le, bytes_of}
use Rattle.symbol.specs.declared.Symbol.{Symbol}
use Rattle.std.specs.Prelude.{Some, None, Option}

-- the most bytes that a symbol has
abbrev pub symbol_width : ℕ
symbol_width = 8

-- A to Z, 0 to 9, '-', '.'
abbrev pub symbol_byte : ℕ → Bool
symbol_byte b = (leb 65 b && leb b 90) || (leb 48 b && leb b 57) || eqb b 45 || eqb b 46

unfoldable pub all_of : (ℕ → Bool) → List ℕ → Bool
all_of f [] = true
all_of f (b ∷ s) = f b && all_of f s

-- a text that is a symbol
unfoldable pub parses : List ℕ → Bool
unfolding all_of
parses t = leb 1 (length t) && leb (length t) symbol_width && all_of symbol_byte t

-- the symbol of a text
abbrev pub symbol_of : List ℕ → Symbol
symbol_of t = record { word = le symbol_width t; len = length t }

abbrev pub parsed_if : Bool → List ℕ → Option Symbol
parsed_if true t = Some (symbol_of t)
parsed_if false t = None

-- Symbol::try_new
unfoldable pub parsed : List ℕ → Option Symbol
unfolding parses
parsed t = parsed_if (parses t) t

-- whether a symbol's text is t, and whether two symbols are one
abbrev pub symbol_is : Symbol → List ℕ → Bool
symbol_is y t = eqb y.word (le symbol_width t) && eqb y.len (length t)

abbrev pub same_symbol : Symbol → Symbol → Bool
same_symbol y z = eqb y.word z.word && eqb y.len z.len

-- by bytes, a prefix first: zeros stand after a symbol's bytes, and no byte of a symbol is zero
unfoldable pub bytes_before : List ℕ → List ℕ → Bool
bytes_before s [] = false
bytes_before [] (b ∷ t) = true
bytes_before (a ∷ s) (b ∷ t) = ltb a b || (eqb a b && bytes_before s t)

abbrev pub before : Symbol → Symbol → Bool
before y z = bytes_before (bytes_of symbol_width y.word) (bytes_of symbol_width z.word)

-- A symbol field: the bytes, zeros up to the width, and the length's byte. `field_ok` is the test of it.
abbrev pub field_symbol : List ℕ → Symbol
field_symbol s = record { word = le symbol_width s; len = le 1 (drop symbol_width s) }

unfoldable pub field_ok : List ℕ → Bool
unfolding parses
field_ok s =
    leb (le 1 (drop symbol_width s)) symbol_width && parses (take (le 1 (drop symbol_width s)) s)
    && eqb (le (symbol_width - le 1 (drop symbol_width s)) (drop (le 1 (drop symbol_width s)) s)) 0

-- the field of 16 bytes has seven zeros more
unfoldable pub wide_field_ok : List ℕ → Bool
unfolding field_ok
wide_field_ok s = field_ok s && eqb (le 7 (drop 9 s)) 0

-- the field of a symbol, and that of 16 bytes
abbrev pub field_bytes : Symbol → List ℕ
field_bytes y = bytes_of symbol_width y.word ++ bytes_of 1 y.len

abbrev pub wide_field_bytes : Symbol → List ℕ
wide_field_bytes y = bytes_of symbol_width y.word ++ bytes_of 8 y.len

-- the symbol UNKNOWN
abbrev pub unknown_symbol : Symbol
unknown_symbol = symbol_of (85 ∷ 78 ∷ 75 ∷ 78 ∷ 79 ∷ 87 ∷ 78 ∷ [])

-- The order of symbols, by the bytes of their numbers.
-- Assumes nothing.
use Prim.Native.Nat.{ℕ, zero, suc, ◌≤◌, ◌<◌}
use mathlib.Core.Path.{◌≡◌, sym, subst}
use mathlib.Core.Bool.{Bool, true, false}
use mathlib.Core.List.{List, [], ◌∷◌}
use native.Mathlib.Nat.{not-suc-le-zero, le_of_suc-le-suc}
use native.Mathlib.Omega.{arith}
use lib.Dec.{T}
use borrow.Author.Tests.{lt-ltb, le-ltb, ne_eqb}
use lib.ListN.{length}
use Rattle.wire.specs.Table.{padded}
use Rattle.wire.proofs.Records.{padded_none}
use Rattle.wire.proofs.Written.{Bytes}
use Rattle.symbol.specs.Symbol.{symbol_width, symbol_byte, all_of, parses, symbol_of, bytes_before, before}
use Rattle.wire.proofs.Bools.{and_left, and_right}
use Rattle.symbol.proofs.Text.{padded_nil, padded_cons, text_bytes, parses_most, parses_bytes}

-- ---- the order of texts: zeros after a text change nothing, since no byte of a symbol is 0
zeros_last : (n : ℕ) → bytes_before (padded n []) (padded n []) ≡ false
unfolding bytes_before
zeros_last zero = rw (padded_none 0)
zeros_last (suc n) = rw (padded_nil n) (zeros_last n)

-- what is never 0
module _ (f : ℕ → Bool) (least : (b : ℕ) → f b ≡ true → 0 < b) where
  padded_before : (n : ℕ) (s t : List ℕ) → all_of f s ≡ true → all_of f t ≡ true → length s ≤ n → length t ≤ n
      → bytes_before (padded n s) (padded n t) ≡ bytes_before s t
  unfolding bytes_before all_of
  padded_before n [] [] p q h l = zeros_last n
  padded_before zero (a ∷ s) t p q h l = absurd (not-suc-le-zero h)
  padded_before zero [] (b ∷ t) p q h l = absurd (not-suc-le-zero l)
  padded_before (suc n) [] (b ∷ t) p q h l =
      rw (padded_nil n, padded_cons n b t, lt-ltb 0 b (least b (and_left (f b) (all_of f t) q)))
  padded_before (suc n) (a ∷ s) [] p q h l =
      let d = least a (and_left (f a) (all_of f s) p) in
      rw (padded_cons n a s, padded_nil n, le-ltb a 0 (omega arith), ne_eqb a 0 (λ e. omega arith))
  padded_before (suc n) (a ∷ s) (b ∷ t) p q h l =
      rw (
        padded_cons n a s,
        padded_cons n b t,
        padded_before n s t (and_right (f a) (all_of f s) p) (and_right (f b) (all_of f t) q) (le_of_suc-le-suc h) (le_of_suc-le-suc l),
      )

byte_least : (b : ℕ) → symbol_byte b ≡ true → 0 < b
byte_least zero e = absurd (subst T (sym e) tt)
byte_least (suc b) e = omega arith

pub before_text : (s t : List ℕ) → parses s ≡ true → parses t ≡ true → Bytes s → Bytes t → before (symbol_of s) (symbol_of t) ≡ bytes_before s t
before_text s t p q b c =
    rw (text_bytes symbol_width s b (parses_most s p), text_bytes symbol_width t c (parses_most t q))
    (padded_before symbol_byte byte_least symbol_width s t (parses_bytes s p) (parses_bytes t q) (parses_most s p) (parses_most t q))

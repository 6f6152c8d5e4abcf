-- Symbol fields: the test of one by its number, and the field that a symbol is written as.
-- Assumes nothing.
use Prim.Native.Nat.{ℕ, zero, suc, ◌+◌, ◌*◌, ◌^◌, ◌-◌, ◌%◌, ◌/◌, ◌≤◌, ◌<◌}
use mathlib.Core.Path.{◌≡◌, refl, sym, ap, ◌∙◌}
use mathlib.Core.Bool.{Bool, true, false, ◌&&◌}
use mathlib.Core.List.{List, [], ◌∷◌, ◌++◌, append_assoc}
use native.Mathlib.Nat.{not-suc-le-zero, le_of_suc-le-suc, suc-sub-suc, sub-zero}
use native.Mathlib.Omega.{arith}
use lib.Dec.{eqb, ltb}
use borrow.Author.Tests.{le-leb, lt-leb, lt-ltb, le-ltb, ne_eqb}
use lib.ListN.{length, take, drop, replicate, length-append}
use lib.Seq.{sets, length-take-le, drop-drop, drop_at, take_at}
use Rattle.wire.specs.Le.{le, bytes_of}
use Rattle.wire.specs.Table.{padded}
use Rattle.wire.proofs.Numbers.{le_add, le_front}
use Rattle.wire.proofs.Written.{Bytes, more, length_bytes_of, le_bytes_of, le_lt}
use Rattle.wire.proofs.Records.{length_padded, sets_append}
use Rattle.symbol.specs.declared.Symbol.{Symbol}
use Rattle.symbol.specs.Symbol.{symbol_width, symbol_byte, all_of, parses, symbol_of, field_symbol, field_ok, wide_field_ok, field_bytes, wide_field_bytes}
use Rattle.symbol.proofs.Text.{and_assoc, bytes_drop, text_bytes, parses_most}

-- ---- the test by the number: the low n bytes pass f, and nothing is above them
unfoldable pub word_ok : (ℕ → Bool) → ℕ → ℕ → Bool
word_ok f zero x = eqb x 0
word_ok f (suc n) x = f (x % 256) && word_ok f n (x / 256)

pub word_fails : (f : ℕ → Bool) (n x : ℕ) → 0 < n → f (x % 256) ≡ false → word_ok f n x ≡ false
unfolding word_ok
word_fails f zero x h e = absurd (not-suc-le-zero h)
word_fails f (suc n) x h e = rw e

pub word_goes : (f : ℕ → Bool) (n x : ℕ) → 0 < n → f (x % 256) ≡ true → word_ok f n x ≡ word_ok f (n - 1) (x / 256)
unfolding word_ok
word_goes f zero x h e = absurd (not-suc-le-zero h)
word_goes f (suc n) x h e = let k : suc n - 1 ≡ n = omega arith in rw (e, k)

pub word_none : (f : ℕ → Bool) (n x : ℕ) → n ≤ 0 → word_ok f n x ≡ eqb x 0
unfolding word_ok
word_none f zero x h = refl
word_none f (suc n) x h = absurd (not-suc-le-zero h)

word_list : (f : ℕ → Bool) (n k : ℕ) (s : List ℕ) → Bytes s → n ≤ k → n ≤ length s
    → word_ok f n (le k s) ≡ (all_of f (take n s) && eqb (le (k - n) (drop n s)) 0)
unfolding word_ok all_of le
word_list f zero k s b h l = rw sub-zero
word_list f (suc n) zero s b h l = absurd (not-suc-le-zero h)
word_list f (suc n) (suc k) [] b h l = absurd (not-suc-le-zero l)
word_list f (suc n) (suc k) (x ∷ s) (more p b) h l =
    let low : (x + 256 * le k s) % 256 ≡ x = omega arith in
    let high : (x + 256 * le k s) / 256 ≡ le k s = omega arith in
    rw (low, high, word_list f n k s b (le_of_suc-le-suc h) (le_of_suc-le-suc l), suc-sub-suc k n) (and_assoc (f x) _ _)

-- a byte that is not 0 is there
there : (n : ℕ) (s : List ℕ) → 0 < le 1 (drop n s) → n < length s
unfolding le
there zero [] h = h
there zero (b ∷ s) h = omega arith
there (suc n) [] h = absurd (not-suc-le-zero h)
there (suc n) (b ∷ s) h = let r = there n s h in omega arith

-- a field whose length is right is tested by its number
pub field_word : (s : List ℕ) → Bytes s → 1 ≤ le 1 (drop symbol_width s) → le 1 (drop symbol_width s) ≤ symbol_width
    → field_ok s ≡ word_ok symbol_byte (le 1 (drop symbol_width s)) (le symbol_width s)
unfolding field_ok parses
field_word s b h l =
    let n = le 1 (drop symbol_width s) in
    let r = there symbol_width s h in
    let k : n ≤ length s = omega arith in
    let e = length-take-le n s k in
    rw (e, le-leb n symbol_width l, le-leb 1 n h) (sym (word_list symbol_byte n symbol_width s b l k))

-- a length that is 0, and one past the width
pub field_short : (s : List ℕ) → le 1 (drop symbol_width s) < 1 → field_ok s ≡ false
unfolding field_ok parses
field_short s h = let e : le 1 (drop symbol_width s) ≡ 0 = omega arith in rw e

pub field_long : (s : List ℕ) → symbol_width < le 1 (drop symbol_width s) → field_ok s ≡ false
unfolding field_ok
field_long s h = rw (lt-leb (le 1 (drop symbol_width s)) symbol_width h)

-- seven zeros after the length's byte, where the eight bytes from there on make a number of one byte
pub wide_zero : (s : List ℕ) → Bytes s → ltb (le 8 (drop 8 s)) 256 ≡ eqb (le 7 (drop 9 s)) 0
wide_zero s b =
    let l = le_lt 1 (drop 8 s) (bytes_drop 8 s b) in
    rw (le_add 1 7 (drop 8 s), drop-drop 1 8 s) (low_only (le 1 (drop 8 s)) (le 7 (drop 9 s)) l)
  where
    low_only : (a x : ℕ) → a < 256 → ltb (a + 256 * x) 256 ≡ eqb x 0
    low_only a zero h = lt-ltb (a + 256 * 0) 256 (omega arith)
    low_only a (suc x) h = le-ltb (a + 256 * suc x) 256 (omega arith) ∙ sym (ne_eqb (suc x) 0 (λ e. omega arith))

-- ---- a field that is written
-- two numbers, one after the other
pub sets_two : (d : List ℕ) (at n m x y : ℕ) → sets (sets d at (bytes_of n x)) (at + n) (bytes_of m y) ≡ sets d at (bytes_of n x ++ bytes_of m y)
sets_two d at n m x y = sym (sets_append d (bytes_of n x) (bytes_of m y) at ∙ rw (length_bytes_of n x))

-- zeros make the number 0
le_zeros : (n : ℕ) (r : List ℕ) → le n (replicate n 0 ++ r) ≡ 0
unfolding le
le_zeros zero r = refl
le_zeros (suc n) r = rw (le_zeros n r)

-- the symbol that was written is read back
pub field_back : (y : Symbol) (r : List ℕ) → y.word < 2 ^ 64 → y.len < 256 → field_symbol (field_bytes y ++ r) ≡ y
field_back y r h l =
    rw (
      append_assoc (bytes_of 8 y.word) (bytes_of 1 y.len) r,
      drop_at (bytes_of 8 y.word) (bytes_of 1 y.len ++ r) 8 (length_bytes_of 8 y.word),
      le_bytes_of 8 y.word (bytes_of 1 y.len ++ r) h,
      le_bytes_of 1 y.len r l,
    )

one_byte : (n : ℕ) → n < 256 → bytes_of 1 n ≡ n ∷ []
unfolding bytes_of
one_byte n h = let low : n % 256 ≡ n = omega arith in rw low

-- a text of the width at the most: its bytes, zeros, its length
pub field_text : (t r : List ℕ) → Bytes t → length t ≤ symbol_width → field_bytes (symbol_of t) ++ r ≡ padded symbol_width t ++ length t ∷ r
field_text t r b h =
    rw (
      append_assoc (bytes_of symbol_width (le symbol_width t)) (bytes_of 1 (length t)) r,
      text_bytes symbol_width t b h,
      one_byte (length t) (omega arith),
    )

-- one that parses is written as a field that is right
pub parsed_field : (t r : List ℕ) → parses t ≡ true → Bytes t → field_ok (field_bytes (symbol_of t) ++ r) ≡ true
unfolding field_ok padded
parsed_field t r h b =
    let n = length t in
    let m = parses_most t h in
    let z : List ℕ = replicate (symbol_width - n) 0 in
    let s = (t ++ z) ++ n ∷ r in
    let d : drop symbol_width s ≡ n ∷ r = drop_at (t ++ z) (n ∷ r) symbol_width (length_padded symbol_width t m) in
    let o : le 1 (drop symbol_width s) ≡ n = ap (le 1) d ∙ sym (le_front (n ∷ r)) in
    let k : take n s ≡ t = rw (append_assoc t z (n ∷ r)) (take_at t (z ++ n ∷ r) n refl) in
    let e : drop n s ≡ z ++ n ∷ r = rw (append_assoc t z (n ∷ r)) (drop_at t (z ++ n ∷ r) n refl) in
    rw (field_text t r b m, o, k, h, e, le-leb n symbol_width m, le_zeros (symbol_width - n) (n ∷ r))

-- ---- the field of 16 bytes is that of nine, and seven zeros
pub wide_field : (y : Symbol) (r : List ℕ) → y.len < 256 → wide_field_bytes y ++ r ≡ field_bytes y ++ (replicate 7 0 ++ r)
unfolding bytes_of
wide_field y r h =
    let z : y.len / 256 ≡ 0 = omega arith in
    rw (append_assoc (bytes_of symbol_width y.word) (bytes_of 8 y.len) r, append_assoc (bytes_of symbol_width y.word) (bytes_of 1 y.len) (replicate 7 0 ++ r), z)

pub wide_back : (y : Symbol) (r : List ℕ) → y.word < 2 ^ 64 → y.len < 256 → field_symbol (wide_field_bytes y ++ r) ≡ y
wide_back y r h l = ap field_symbol (wide_field y r l) ∙ field_back y (replicate 7 0 ++ r) h l

pub parsed_wide : (t r : List ℕ) → parses t ≡ true → Bytes t → wide_field_ok (wide_field_bytes (symbol_of t) ++ r) ≡ true
unfolding wide_field_ok
parsed_wide t r h b =
    let y = symbol_of t in
    let m = parses_most t h in
    let size : length (field_bytes y) ≡ 9 = length-append (bytes_of symbol_width y.word) (bytes_of 1 y.len) ∙ rw (length_bytes_of, length_bytes_of) in
    rw (
      wide_field y r (omega arith),
      parsed_field t (replicate 7 0 ++ r) h b,
      drop_at (field_bytes y) (replicate 7 0 ++ r) 9 size,
      le_zeros 7 r,
    )

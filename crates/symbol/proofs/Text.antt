-- Texts and the numbers that their bytes make: what the loop of `Symbol::try_new` asks, and that comparing numbers and lengths is comparing texts.
-- Assumes nothing.
use Prim.Native.Nat.{ℕ, zero, suc, ◌+◌, ◌*◌, ◌^◌, ◌%◌, ◌/◌, ◌≤◌, ◌<◌}
use mathlib.Core.Path.{◌≡◌, refl, sym, ap, ◌∙◌}
use mathlib.Core.Bool.{Bool, true, false, ◌&&◌, ◌||◌}
use mathlib.Core.List.{List, [], ◌∷◌, ◌++◌, append_assoc, append-nil}
use native.Mathlib.Nat.{not-suc-le-zero, le_of_suc-le-suc, sub-zero, suc-sub-suc}
use native.Mathlib.Omega.{arith}
use lib.Dec.{eqb, leb}
use borrow.Author.Tests.{leb-true, eqb-true, eqb-false, eq-eqb, ne_eqb}
use mir.Syntax.{w8}
use mir.Val.{Fits}
use lib.ListN.{length, take, drop, get_or, length-drop, length-append}
use lib.Seq.{drop-length, drop_at}
use Rattle.wire.specs.Le.{le, bytes_of, same_bytes}
use Rattle.wire.specs.Table.{padded}
pub use Rattle.wire.proofs.Bools.{and_left, and_right}
use Rattle.wire.proofs.Bools.{and_false, and-true}
use Rattle.wire.proofs.Records.{padded_none}
use Rattle.wire.proofs.Numbers.{le_nil}
use Rattle.wire.proofs.Written.{Bytes, none, more, le_lt, same_unlike}
use Rattle.symbol.specs.Symbol.{symbol_width, symbol_byte, all_of, parses, symbol_of, symbol_is, same_symbol}

-- ---- truths
pub or_false : (a : Bool) → (a || false) ≡ a
or_false true = refl
or_false false = refl

pub and_assoc : (a b c : Bool) → (a && (b && c)) ≡ (a && b && c)
and_assoc true b c = refl
and_assoc false b c = refl

-- what is known of a slice's elements
pub bytes_of_lem : (s : List ℕ) → ((i : ℕ) → Fits w8 (get_or s i 0)) → Bytes s
bytes_of_lem [] h = none
bytes_of_lem (b ∷ s) h = more (h 0).fits (bytes_of_lem s (λ i. h (suc i)))

pub bytes_take : (n : ℕ) (s : List ℕ) → Bytes s → Bytes (take n s)
bytes_take zero s b = none
bytes_take (suc n) [] b = none
bytes_take (suc n) (x ∷ s) (more h b) = more h (bytes_take n s b)

pub bytes_drop : (n : ℕ) (s : List ℕ) → Bytes s → Bytes (drop n s)
bytes_drop zero s b = b
bytes_drop (suc n) [] none = none
bytes_drop (suc n) (x ∷ s) (more p b) = bytes_drop n s b

-- a number does not change where more bytes are asked than there are
pub le_more : (n : ℕ) (s : List ℕ) → length s ≤ n → le (suc n) s ≡ le n s
unfolding le
le_more n [] h = simp le_nil
le_more zero (b ∷ s) h = absurd (not-suc-le-zero h)
le_more (suc n) (b ∷ s) h = rw (le_more n s (le_of_suc-le-suc h))

-- ---- a text with zeros after it up to a width
pub padded_nil : (n : ℕ) → padded (suc n) [] ≡ 0 ∷ padded n []
unfolding padded
padded_nil n = rw (sub-zero (suc n), sub-zero n)

pub padded_cons : (n x : ℕ) (t : List ℕ) → padded (suc n) (x ∷ t) ≡ x ∷ padded n t
unfolding padded
padded_cons n x t = rw (suc-sub-suc n (length t))

-- the bytes of its number
pub text_bytes : (n : ℕ) (t : List ℕ) → Bytes t → length t ≤ n → bytes_of n (le n t) ≡ padded n t
unfolding bytes_of le
text_bytes zero [] none h = sym (padded_none 0)
text_bytes (suc n) [] none h =
    ap (λ (l : List ℕ). 0 ∷ l) (ap (bytes_of n) (sym (le_nil n)) ∙ text_bytes n [] none (omega arith)) ∙ sym (padded_nil n)
text_bytes zero (x ∷ t) b h = absurd (not-suc-le-zero h)
text_bytes (suc n) (x ∷ t) (more p b) h =
    let low : (x + 256 * le n t) % 256 ≡ x = omega arith in
    let high : (x + 256 * le n t) / 256 ≡ le n t = omega arith in
    rw (low, high, text_bytes n t b (le_of_suc-le-suc h), padded_cons n x t)

pub all_fails : (f : ℕ → Bool) (s : List ℕ) (b : ℕ) (t : List ℕ) → f b ≡ false → all_of f (s ++ b ∷ t) ≡ false
unfolding all_of
all_fails f [] b t e = rw e
all_fails f (a ∷ s) b t e = rw (all_fails f s b t e) (and_false (f a))

-- ---- the loop that parses, from the last byte to the first: those in `left` are left, and the word is the number of those after them
pub record Parsing (t left : List ℕ) (word : ℕ) : Type 0 where
  pub whole : left ++ drop (length left) t ≡ t
  pub number : word ≡ le symbol_width (drop (length left) t)
  pub bytes : all_of symbol_byte (drop (length left) t) ≡ true

pub parsing_starts : (t : List ℕ) → Parsing t t 0
unfolding le all_of
parsing_starts t = record { whole = rw drop-length (append-nil t); number = rw drop-length; bytes = rw drop-length }

module _ (t left rest : List ℕ) (b word : ℕ) (e : left ≡ rest ++ b ∷ []) (p : Parsing t left word) where
  -- the bytes from the next one on
  next_whole : rest ++ b ∷ drop (length left) t ≡ t
  next_whole = sym (append_assoc rest (b ∷ []) (drop (length left) t)) ∙ ap (λ (l : List ℕ). l ++ drop (length left) t) (sym e) ∙ p.whole

  next_seen : drop (length rest) t ≡ b ∷ drop (length left) t
  next_seen = ap (drop (length rest)) (sym next_whole) ∙ drop_at rest (b ∷ drop (length left) t) (length rest) refl

  pub parsing_fails : symbol_byte b ≡ false → all_of symbol_byte t ≡ false
  unfolding all_of
  parsing_fails f = ap (all_of symbol_byte) (sym next_whole) ∙ all_fails symbol_byte rest b (drop (length left) t) f

  -- seven bytes at the most were seen
  seen_few : length t ≤ symbol_width → length (drop (length left) t) ≤ 7
  seen_few h = rw (length-drop, e, length-append) (omega arith)

  pub parsing_small : Bytes t → length t ≤ symbol_width → word < 256 ^ 7
  parsing_small c h =
      rw (p.number, le_more 7 (drop (length left) t) (seen_few h)) (le_lt 7 (drop (length left) t) (bytes_drop (length left) t c))

  pub parsing_goes : symbol_byte b ≡ true → length t ≤ symbol_width → Parsing t rest (word * 256 + b)
  unfolding all_of le
  parsing_goes f h =
      record {
        whole = ap (λ (l : List ℕ). rest ++ l) next_seen ∙ next_whole;
        number = rw (next_seen, p.number, le_more 7 (drop (length left) t) (seen_few h)) (omega arith);
        bytes = rw (next_seen, f) p.bytes;
      }

-- the whole text was seen
pub parsing_ends : (t left : List ℕ) (word : ℕ) → length left ≡ 0 → Parsing t left word → (word ≡ le symbol_width t) × (all_of symbol_byte t ≡ true)
parsing_ends t left word e p = (rw e at p.number, rw e at p.bytes)

-- ---- what a text that parses is
pub parses_most : (t : List ℕ) → parses t ≡ true → length t ≤ symbol_width
unfolding parses
parses_most t h = leb-true (length t) symbol_width (and_right (leb 1 (length t)) _ (and_left _ (all_of symbol_byte t) h))

pub parses_bytes : (t : List ℕ) → parses t ≡ true → all_of symbol_byte t ≡ true
unfolding parses
parses_bytes t h = and_right (leb 1 (length t) && leb (length t) symbol_width) _ h

-- ---- the comparison of numbers and lengths is that of texts
low_high : (a b x y : ℕ) (v u : Bool) → a < 256 → b < 256 → eqb a b ≡ v → eqb x y ≡ u → eqb (a + 256 * x) (b + 256 * y) ≡ (v && u)
low_high a b x y false u p q e f = let d = eqb-false a b e in ne_eqb (a + 256 * x) (b + 256 * y) (λ k. d (omega arith))
low_high a b x y true false p q e f = let g = eqb-false x y f in ne_eqb (a + 256 * x) (b + 256 * y) (λ k. g (omega arith))
low_high a b x y true true p q e f =
    let d = eqb-true a b e in
    let g = eqb-true x y f in
    eq-eqb (a + 256 * x) (b + 256 * y) (omega arith)

pub same_number : (n : ℕ) (s t : List ℕ) → Bytes s → Bytes t → length s ≡ length t → length s ≤ n → eqb (le n s) (le n t) ≡ same_bytes s t
unfolding le same_bytes
same_number n [] [] none none e h = rw (le_nil n)
same_number n [] (b ∷ t) none c e h = let f : 0 ≡ suc (length t) = e in absurd (omega arith)
same_number n (a ∷ s) [] b none e h = let f : suc (length s) ≡ 0 = e in absurd (omega arith)
same_number zero (a ∷ s) (b ∷ t) c d e h = absurd (not-suc-le-zero h)
same_number (suc n) (a ∷ s) (b ∷ t) (more p c) (more q d) e h =
    let f : suc (length s) ≡ suc (length t) = e in
    low_high a b (le n s) (le n t) (eqb a b) (same_bytes s t) p q refl (same_number n s t c d (omega arith) (le_of_suc-le-suc h))

-- a symbol's text against any text
pub is_same : (s t : List ℕ) → parses s ≡ true → Bytes s → Bytes t → symbol_is (symbol_of s) t ≡ same_bytes s t
is_same s t h b c = by (eqb (length s) (length t)) refl
  where
    by : (v : Bool) → eqb (length s) (length t) ≡ v → symbol_is (symbol_of s) t ≡ same_bytes s t
    by true e =
        let l = eqb-true (length s) (length t) e in
        rw (e, same_number symbol_width s t b c l (parses_most s h)) (and-true (same_bytes s t))
    by false e =
        rw (e, same_unlike s t (eqb-false (length s) (length t) e)) (and_false (eqb (le symbol_width s) (le symbol_width t)))

-- two symbols
pub same_text : (s t : List ℕ) → parses s ≡ true → Bytes s → Bytes t → same_symbol (symbol_of s) (symbol_of t) ≡ same_bytes s t
same_text s t h b c = is_same s t h b c

-- Symbols whose field is right: the number tells the length, so numbers alone tell symbols apart.
-- Assumes nothing.
use Prim.Native.Nat.{ℕ, zero, suc, ◌+◌, ◌-◌, ◌*◌, ◌/◌, ◌%◌, ◌^◌, ◌≤◌, ◌<◌}
use mathlib.Core.Path.{◌≡◌, refl, sym, ap, subst, ◌∙◌}
use mathlib.Core.Bool.{Bool, true, false}
use mathlib.Core.List.{List}
use native.Mathlib.Nat.{lt_of_not-le, not-le_of_lt, pow-le-pow_right, pow-succ'}
use native.Mathlib.Omega.{arith}
use lib.Dec.{T, eqb, ltb}
use borrow.Author.Tests.{ltb-true, ltb-false, eqb-true, eqb-false, eq-eqb, ne_eqb}
use lib.Count.{count_leading_zeros, leading_top}
use lib.ListN.{drop}
use lib.Pow.{pow-add}
use Rattle.wire.specs.Le.{le}
use Rattle.wire.proofs.Written.{Bytes}
use Rattle.symbol.specs.Symbol.{symbol_byte, field_symbol, field_ok, wide_field_ok, same_symbol}
use Rattle.symbol.specs.declared.Symbol.{Symbol}
use Rattle.symbol.proofs.Text.{and_left, and_right}
use Rattle.symbol.proofs.Field.{word_ok, field_word, field_short, field_long}
use Rattle.drift.specs.Code.{key, key_of, len_of, symbol_at}
use Rattle.drift.proofs.Keys.{restored}
use Rattle.drift.proofs.Integers.{never}

-- a number of `len` bytes, the last of which is not 0
pub record Sized (y : Symbol) : Type 0 where
  pub least : 1 ≤ y.len
  pub most : y.len ≤ 8
  pub low : 256 ^ (y.len - 1) ≤ y.word
  pub high : y.word < 256 ^ y.len

byte_least : (b : ℕ) → symbol_byte b ≡ true → 0 < b
byte_least zero e = absurd (subst T (sym e) tt)
byte_least (suc b) e = omega arith

word_bounds : (n x : ℕ) → word_ok symbol_byte (suc n) x ≡ true → (256 ^ n ≤ x) × (x < 256 ^ suc n)
unfolding word_ok
word_bounds zero x h =
    let p = byte_least (x % 256) (and_left (symbol_byte (x % 256)) (eqb (x / 256) 0) h) in
    let q = eqb-true (x / 256) 0 (and_right (symbol_byte (x % 256)) (eqb (x / 256) 0) h) in
    (omega arith, omega arith)
word_bounds (suc n) x h =
    let r = word_bounds n (x / 256) (and_right (symbol_byte (x % 256)) (word_ok symbol_byte (suc n) (x / 256)) h) in
    let a = r.0 in
    let b = r.1 in
    (rw (pow-succ' 256 n) (omega arith), rw (pow-succ' 256 (suc n)) (omega arith))

pub sized : (s : List ℕ) → Bytes s → wide_field_ok s ≡ true → Sized (field_symbol s)
unfolding wide_field_ok
sized s b h = by (ltb (le 1 (drop 8 s)) 1) refl (ltb 8 (le 1 (drop 8 s))) refl
  where
    f : field_ok s ≡ true
    f = and_left (field_ok s) (eqb (le 7 (drop 9 s)) 0) h

    by : (u : Bool) → ltb (le 1 (drop 8 s)) 1 ≡ u → (v : Bool) → ltb 8 (le 1 (drop 8 s)) ≡ v → Sized (field_symbol s)
    by true e v g = never (sym (field_short s (ltb-true (le 1 (drop 8 s)) 1 e)) ∙ f)
    by false e true g = never (sym (field_long s (ltb-true 8 (le 1 (drop 8 s)) g)) ∙ f)
    by false e false g =
        let p = ltb-false (le 1 (drop 8 s)) 1 e in
        let q = ltb-false 8 (le 1 (drop 8 s)) g in
        let k : suc (le 1 (drop 8 s) - 1) ≡ le 1 (drop 8 s) = omega arith in
        let w : word_ok symbol_byte (le 1 (drop 8 s)) (le 8 s) ≡ true = sym (field_word s b p q) ∙ f in
        let r = word_bounds (le 1 (drop 8 s) - 1) (le 8 s) (rw k w) in
        record { least = p; most = q; low = r.0; high = rw k at r.1 }

-- ---- the length from the number
pow-lt : (a b : ℕ) → 2 ^ a < 2 ^ b → a < b
pow-lt a b h = lt_of_not-le (λ (l : b ≤ a). not-le_of_lt h (pow-le-pow_right {n = 2} (omega arith) l))

pow_eight : (k : ℕ) → 256 ^ k ≡ 2 ^ (8 * k)
pow_eight zero = refl
pow_eight (suc k) =
    let e : 8 * suc k ≡ 8 + 8 * k = omega arith in
    rw (e, pow-add 2 8 (8 * k), pow-succ' 256 k, pow_eight k)

pub below : (y : Symbol) → Sized y → y.word < 2 ^ 64
below y z =
    let m = z.most in
    let k : 8 * y.len ≤ 64 = omega arith in
    let two : 0 < 2 = omega arith in
    let big : 256 ^ y.len ≤ 2 ^ 64 = rw (pow_eight y.len) (pow-le-pow_right two k) in
    omega (arith, z.high)

pub len_of_lem : (y : Symbol) → Sized y → len_of y.word ≡ y.len
len_of_lem y z =
    let l = z.least in
    let k : 0 ≤ y.len - 1 = omega arith in
    let n : 0 < 256 = omega arith in
    let one : 256 ^ 0 ≤ 256 ^ (y.len - 1) = pow-le-pow_right n k in
    let some : 0 < y.word = omega (arith, z.low) in
    let t = leading_top 64 y.word some (below y z) in
    let j = t.0 in
    let e : count_leading_zeros 64 y.word + suc j ≡ 64 = t.1 in
    let p : 2 ^ (8 * (y.len - 1)) < 2 ^ suc j = rw (← pow_eight (y.len - 1)) (omega (arith, z.low, t.3)) in
    let q : 2 ^ j < 2 ^ (8 * y.len) = rw (← pow_eight y.len) (omega (arith, z.high, t.2)) in
    let a = pow-lt (8 * (y.len - 1)) (suc j) p in
    let b = pow-lt j (8 * y.len) q in
    omega arith

pub sized_at : (y : Symbol) → Sized y → symbol_at y.word ≡ y
sized_at y z = λ i. record { word = y.word; len = len_of_lem y z i }

pub key_back : (y : Symbol) → Sized y → symbol_at (key (key_of y)) ≡ y
key_back y z = ap symbol_at (restored y.word (below y z)) ∙ sized_at y z

-- ---- the same symbol
pub same_by_key : (y z : Symbol) → Sized y → Sized z → same_symbol y z ≡ eqb (key_of y) (key_of z)
same_by_key y z p q = by (eqb (key_of y) (key_of z)) refl
  where
    by : (v : Bool) → eqb (key_of y) (key_of z) ≡ v → same_symbol y z ≡ v
    by true e =
        let k : y ≡ z = sym (key_back y p) ∙ ap (λ (x : ℕ). symbol_at (key x)) (eqb-true (key_of y) (key_of z) e) ∙ key_back z q in
        rw (eq-eqb y.word z.word (ap (λ (s : Symbol). s.word) k), eq-eqb y.len z.len (ap (λ (s : Symbol). s.len) k))
    by false e = rw (ne_eqb y.word z.word (λ w. eqb-false (key_of y) (key_of z) e (ap key w)))

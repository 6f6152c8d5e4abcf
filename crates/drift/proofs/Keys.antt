-- Symbols' numbers with their bytes the other way round: they are in order as the symbols are, and give the numbers back.
-- Assumes nothing.
use Prim.Native.Nat.{ℕ, zero, suc, ◌+◌, ◌*◌, ◌^◌, ◌%◌, ◌/◌, ◌≤◌, ◌<◌}
use mathlib.Core.Path.{◌≡◌, refl, sym, ap, ◌∙◌}
use mathlib.Core.Bool.{Bool, true, false, ◌&&◌, ◌||◌}
use native.Mathlib.Nat.{pow-succ', mul-le-mul_right, div-div-eq-div-mul, mod-eq_of_lt, one-le-pow}
use native.Mathlib.Omega.{arith}
use lib.Arith.{mod-mul}
use lib.Dec.{ltb, eqb}
use borrow.Author.Tests.{ltb-true, ltb-false, lt-ltb, le-ltb, eq-eqb, ne_eqb}
use Rattle.wire.specs.Le.{bytes_of}
use Rattle.symbol.specs.Symbol.{bytes_before}
use Rattle.drift.specs.Code.{swapped}

pub swap_lt : (n x : ℕ) → swapped n x < 256 ^ n
unfolding swapped
swap_lt zero x = omega arith
swap_lt (suc n) x =
    let l : x % 256 ≤ 255 = omega arith in
    rw pow-succ' (omega (arith, mul-le-mul_right (256 ^ n) l, swap_lt n (x / 256)))

-- the leading byte decides, then what comes after it
lead : (a b s t m : ℕ) → a < b → s < m → a * m + s < b * m + t
lead a b s t m h l = omega (arith, mul-le-mul_right m h)

after_lead : (a b s t m : ℕ) → a ≡ b → ltb s t ≡ ltb (a * m + s) (b * m + t)
after_lead a b s t m e = by (ltb s t) refl
  where
    k : a * m ≡ b * m
    k = ap (λ (i : ℕ). i * m) e

    by : (v : Bool) → ltb s t ≡ v → v ≡ ltb (a * m + s) (b * m + t)
    by true q = let h = ltb-true s t q in sym (lt-ltb (a * m + s) (b * m + t) (omega (arith, k)))
    by false q = let h = ltb-false s t q in sym (le-ltb (a * m + s) (b * m + t) (omega (arith, k)))

first_byte : (a b s t m : ℕ) → s < m → t < m → (ltb a b || (eqb a b && ltb s t)) ≡ ltb (a * m + s) (b * m + t)
first_byte a b s t m p q = by (ltb a b) refl (ltb b a) refl
  where
    by : (u : Bool) → ltb a b ≡ u → (v : Bool) → ltb b a ≡ v → (u || (eqb a b && ltb s t)) ≡ ltb (a * m + s) (b * m + t)
    by true e v f = sym (lt-ltb (a * m + s) (b * m + t) (lead a b s t m (ltb-true a b e) p))
    by false e true f =
        let h = ltb-true b a f in
        let l = lead b a t s m h q in
        rw (ne_eqb a b (λ k. omega arith)) (sym (le-ltb (a * m + s) (b * m + t) (omega arith)))
    by false e false f =
        let h = ltb-false a b e in
        let l = ltb-false b a f in
        let k : a ≡ b = omega arith in
        rw (eq-eqb a b k) (after_lead a b s t m k)

pub key_first : (n x y : ℕ) → bytes_before (bytes_of n x) (bytes_of n y) ≡ ltb (swapped n x) (swapped n y)
unfolding bytes_before bytes_of swapped
key_first zero x y = refl
key_first (suc n) x y =
    rw (key_first n (x / 256) (y / 256)) (first_byte (x % 256) (y % 256) (swapped n (x / 256)) (swapped n (y / 256)) (256 ^ n) (swap_lt n (x / 256)) (swap_lt n (y / 256)))

-- ---- twice the other way round
swap_last : (n x : ℕ) → swapped (suc n) x ≡ swapped n x * 256 + x / 256 ^ n % 256
unfolding swapped
swap_last zero x = omega arith
swap_last (suc n) x =
    let d : x / 256 / 256 ^ n ≡ x / 256 ^ suc n = div-div-eq-div-mul x 256 (256 ^ n) ∙ rw (pow-succ' 256 n) in
    ap (λ (k : ℕ). x % 256 * 256 ^ suc n + k) (swap_last n (x / 256)) ∙ rw (d, pow-succ' 256 n) (omega arith)

swap_twice : (n x : ℕ) → swapped n (swapped n x) ≡ x % 256 ^ n
unfolding swapped
swap_twice zero x = omega arith
swap_twice (suc n) x =
    let b = x / 256 ^ n % 256 in
    let r : (swapped n x * 256 + b) % 256 ≡ b = omega arith in
    let d : (swapped n x * 256 + b) / 256 ≡ swapped n x = omega arith in
    let z : 0 < 256 = omega arith in
    ap (swapped (suc n)) (swap_last n x) ∙ rw (r, d, swap_twice n x, pow-succ' 256 n) (sym (mod-mul x z (one-le-pow n 256 z)))

pub restored : (x : ℕ) → x < 2 ^ 64 → swapped 8 (swapped 8 x) ≡ x
restored x h = swap_twice 8 x ∙ mod-eq_of_lt h

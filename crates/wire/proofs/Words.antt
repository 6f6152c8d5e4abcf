-- Numbers made of smaller ones, and numbers written byte by byte and one after the other.
-- Assumes nothing.
use Prim.Native.Nat.{ℕ, zero, suc, ◌+◌, ◌*◌, ◌^◌, ◌%◌, ◌/◌, ◌<◌}
use mathlib.Core.Path.{◌≡◌, sym, ap, ◌∙◌}
use mathlib.Core.List.{List, ◌++◌}
use native.Mathlib.Nat.{zero-add, suc-add, mul_comm, mul_assoc, pow-succ', div-lt_iff_lt-mul}
use native.Mathlib.Omega.{arith}
use lib.Dec.{lit<}
use lib.ListN.{set}
use lib.Seq.{sets}
use Rattle.wire.specs.Le.{bytes_of}
use Rattle.wire.proofs.Written.{length_bytes_of}
use Rattle.wire.proofs.Records.{sets_append}

-- a number of n bytes, and above it one of m
pub bytes_add : (n m x y : ℕ) → x < 256 ^ n → bytes_of (n + m) (x + 256 ^ n * y) ≡ bytes_of n x ++ bytes_of m y
unfolding bytes_of
bytes_add zero m x y h =
    let e : x + 256 ^ zero * y ≡ y = omega arith in
    rw (zero-add m, e)
bytes_add (suc n) m x y h =
    let k : x < 256 ^ n * 256 = rw (pow-succ', mul_comm) at h in
    let b : x / 256 < 256 ^ n = (div-lt_iff_lt-mul {k = 256} (lit< tt)).1 k in
    let low : (x + 256 * (256 ^ n * y)) % 256 ≡ x % 256 = omega arith in
    let high : (x + 256 * (256 ^ n * y)) / 256 ≡ x / 256 + 256 ^ n * y = omega arith in
    rw (suc-add n m, pow-succ', mul_assoc, low, high, bytes_add n m (x / 256) y b)

-- numbers one after the other
pub sets_number : (n x : ℕ) (t d : List ℕ) (at : ℕ) → sets d at (bytes_of n x ++ t) ≡ sets (sets d at (bytes_of n x)) (at + n) t
sets_number n x t d at = sets_append d (bytes_of n x) t at ∙ ap (λ (k : ℕ). sets (sets d at (bytes_of n x)) (at + k) t) (length_bytes_of n x)

pub two_words : (d : List ℕ) (at x y : ℕ) → sets (sets d at (bytes_of 8 x)) (at + 8) (bytes_of 8 y) ≡ sets d at (bytes_of 8 x ++ bytes_of 8 y)
two_words d at x y = sym (sets_number 8 x (bytes_of 8 y) d at)

-- one byte
pub one_store : (d : List ℕ) (at x : ℕ) → x < 256 → set d at x ≡ sets d at (bytes_of 1 x)
unfolding bytes_of
one_store d at x h = let e : x % 256 ≡ x = omega arith in rw e

-- Bytes that are written: one turn of each loop, and what reads them back.
-- Assumes nothing.
use Prim.Native.Nat.{ℕ, zero, suc, ◌+◌, ◌*◌, ◌^◌, ◌-◌, ◌%◌, ◌/◌, ◌≤◌, ◌<◌, min}
use mathlib.Core.Bool.{false}
use mathlib.Core.Path.{◌≡◌, refl, sym, ap, ◌∙◌}
use mathlib.Core.List.{List, [], ◌∷◌, ◌++◌, append_assoc}
use native.Mathlib.Nat.{not-suc-le-zero, pow-succ', mul_comm, div-lt_iff_lt-mul, div-div-eq-div-mul}
use lib.Dec.{eqb, lit<}
use native.Mathlib.Omega.{arith}
use native.Mathlib.Numerals.{add-one}
use borrow.Rule.Slice.PartMut.{put_mid}
use lib.ListN.{length, take, length-set, set}
use lib.Seq.{sets, sets-eq, drop-drop, set_out}
use Rattle.std.specs.Int.{w32, w64, to_le_bytes}
use Rattle.std.specs.Prelude.{nat_eq}
use Rattle.std.specs.Cmp.Lexicographic.{pointwise}
use Rattle.wire.specs.Le.{le, bytes_of, same_bytes}
use Rattle.wire.proofs.Bools.{and_false}

-- what would be written past the end is dropped
pub sets_past : (l : List ℕ) (i : ℕ) (vs : List ℕ) → length l ≤ i → sets l i vs ≡ l
sets_past l i [] h = refl
sets_past l i (v ∷ vs) h = rw (set_out l i v h) (sets_past l (suc i) vs (omega arith))

-- n bytes, where some are left and where none is
pub bytes_of_less : (n x : ℕ) → 0 < n → bytes_of n x ≡ x % 256 ∷ bytes_of (n - 1) (x / 256)
unfolding bytes_of
bytes_of_less zero x h = absurd (not-suc-le-zero h)
bytes_of_less (suc n) x h = let e : suc n - 1 ≡ n = omega arith in rw e

pub bytes_of_none : (n x : ℕ) → n ≤ 0 → bytes_of n x ≡ []
unfolding bytes_of
bytes_of_none zero x h = refl
bytes_of_none (suc n) x h = absurd (not-suc-le-zero h)

-- one turn of the loop that writes a number, and its end: none is left, or the rest has no room
pub put_step : (d : List ℕ) (i n x : ℕ) → 0 < n → sets d i (bytes_of n x) ≡ sets (set d i (x % 256)) (i + 1) (bytes_of (n - 1) (x / 256))
put_step d i n x h = rw (bytes_of_less n x h, add-one)

pub put_end : (d : List ℕ) (i n x : ℕ) → (0 < n → length d ≤ i) → sets d i (bytes_of n x) ≡ d
unfolding bytes_of
put_end d i zero x h = refl
put_end d i (suc n) x h = sets_past d i (bytes_of (suc n) x) (h (omega arith))

-- bytes that have no room are dropped
pub sets_room : (d s : List ℕ) (i n : ℕ) → n ≡ min (length s) (length d - i) → sets d i (take n s) ≡ sets d i s
sets_room d [] i zero h = refl
sets_room d [] i (suc n) h = refl
sets_room d (v ∷ s) i zero h = sym (sets_past d i (v ∷ s) (omega (arith, h)))
sets_room d (v ∷ s) i (suc n) h = sets_room (set d i v) s (suc i) n (rw length-set (omega (arith, h)))

-- a part of a slice that was written over
pub put_mid_is : (d ys vs : List ℕ) (i k : ℕ) → ys ≡ vs → i + k ≤ length d → length vs ≡ k → put_mid i k d ys ≡ sets d i vs
put_mid_is d ys vs i k e h l =
    let room : i + length vs ≤ length d = rw l h in
    sym (sets-eq vs d i room ∙ rw (e, l, append_assoc, drop-drop k i d))

-- ---- what is written is read back
pub length_bytes_of : (n x : ℕ) → length (bytes_of n x) ≡ n
unfolding bytes_of
length_bytes_of zero x = refl
length_bytes_of (suc n) x = ap suc (length_bytes_of n (x / 256))

pub le_bytes_of : (n x : ℕ) (t : List ℕ) → x < 256 ^ n → le n (bytes_of n x ++ t) ≡ x
unfolding le bytes_of
le_bytes_of zero x t h = omega arith
le_bytes_of (suc n) x t h =
    let k : x < 256 ^ n * 256 = rw (pow-succ', mul_comm) at h in
    let b : x / 256 < 256 ^ n = (div-lt_iff_lt-mul {k = 256} (lit< tt)).1 k in
    rw (le_bytes_of n (x / 256) t b) (omega arith)

-- each element is a byte
pub data Bytes : List ℕ → Type 0 where
  none : Bytes []
  more : {b : ℕ} {s : List ℕ} → b < 256 → Bytes s → Bytes (b ∷ s)

-- a number of n bytes is below 256 ^ n
pub le_lt : (n : ℕ) (s : List ℕ) → Bytes s → le n s < 256 ^ n
unfolding le
le_lt zero s b = omega arith
le_lt (suc n) [] none = rw pow-succ' (omega (arith, le_lt n [] none))
le_lt (suc n) (x ∷ s) (more p b) = rw pow-succ' (omega (arith, le_lt n s b))

-- the library's bytes of a number
pub le_bytes_4 : (x : ℕ) → to_le_bytes w32 x ≡ bytes_of 4 x
unfolding bytes_of
le_bytes_4 x = simp div-div-eq-div-mul

pub le_bytes_8 : (x : ℕ) → to_le_bytes w64 x ≡ bytes_of 8 x
unfolding bytes_of
le_bytes_8 x = simp div-div-eq-div-mul

-- two lists of different lengths, and the library's equality
pub same_unlike : (a b : List ℕ) → (length a ≡ length b → ⊥) → same_bytes a b ≡ false
unfolding same_bytes
same_unlike [] [] h = absurd (h refl)
same_unlike [] (y ∷ b) h = refl
same_unlike (x ∷ a) [] h = refl
same_unlike (x ∷ a) (y ∷ b) h = rw (same_unlike a b (λ e. h (ap suc e))) (and_false (eqb x y))

pub same_equal : (a b : List ℕ) → pointwise nat_eq a b ≡ same_bytes a b
unfolding same_bytes
same_equal [] [] = refl
same_equal [] (y ∷ b) = refl
same_equal (x ∷ a) [] = refl
same_equal (x ∷ a) (y ∷ b) = rw (same_equal a b)

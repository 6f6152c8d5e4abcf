-- Numbers at the front of a list, each law stated once over the width.
-- Assumes nothing.
use Prim.Native.Nat.{ℕ, zero, suc, ◌+◌, ◌*◌, ◌^◌, ◌≤◌, ◌<◌}
use denote.Param.Members.{Mut}
use Rattle.std.specs.Fn.{Called}
use Rattle.std.specs.Int.{w16, w32, w64, from_le_bytes}
use Rattle.std.specs.Array.{IsFromFnResultFrom, IsFromFnResult}
use mathlib.Core.Path.{◌≡◌, refl, subst, ◌∙◌}
use mathlib.Core.List.{List, [], ◌∷◌, ◌++◌}
use native.Mathlib.Nat.{zero-add, add-zero, suc-add, add-suc, mul-zero, not-suc-le-zero, le_of_suc-le-suc, mul_assoc, pow-succ'}
use native.Mathlib.Omega.{arith}
use lib.ListN.{length, drop, get_or, length-drop}
use lib.Seq.{drop-append-le}
use Rattle.wire.specs.Le.{le}

-- past the end a number is 0
pub le_nil : (n : ℕ) → le n [] ≡ 0
unfolding le
le_nil zero = refl
le_nil (suc n) = refl

-- a number of n + m bytes is that of n, and above it that of m
pub le_add : (n m : ℕ) (s : List ℕ) → le (n + m) s ≡ le n s + 256 ^ n * le m (drop n s)
unfolding le
le_add zero m s = rw zero-add (omega arith)
le_add (suc n) m [] = simp (le_nil, mul-zero)
le_add (suc n) m (b ∷ s) = rw (suc-add, pow-succ', mul_assoc) (omega (arith, le_add n m s))

-- a number by its bytes: that at i, and above it the number after it
pub le_at : (n i : ℕ) (s : List ℕ) → le (suc n) (drop i s) ≡ get_or s i 0 + 256 * le n (drop (suc i) s)
unfolding le
le_at n zero [] = simp le_nil
le_at n zero (b ∷ s) = refl
le_at n (suc i) [] = simp le_nil
le_at n (suc i) (b ∷ s) = le_at n i s

pub le_front : (s : List ℕ) → get_or s 0 0 ≡ le 1 s
unfolding le
le_front [] = refl
le_front (b ∷ s) = omega arith

-- a number does not look past its bytes, and neither does a field of n bytes at k
pub le_append : (n : ℕ) (s t : List ℕ) → n ≤ length s → le n (s ++ t) ≡ le n s
unfolding le
le_append zero s t h = refl
le_append (suc n) [] t h = absurd (not-suc-le-zero h)
le_append (suc n) (b ∷ s) t h = rw (le_append n s t (le_of_suc-le-suc h))

pub le_drop_append : (n k : ℕ) (s t : List ℕ) → k + n ≤ length s → le n (drop k (s ++ t)) ≡ le n (drop k s)
le_drop_append n k s t h =
    let a : k ≤ length s = omega arith in
    let b : n ≤ length (drop k s) = rw length-drop (omega arith) in
    rw (drop-append-le k s t a) (le_append n (drop k s) t b)

-- a byte by its place, and a number by its bytes
pub le_byte : (i : ℕ) (s : List ℕ) → le 1 (drop i s) ≡ get_or s i 0
unfolding le
le_byte i s = omega (arith, le_at 0 i s)

le_same_from : (n i : ℕ) (a b : List ℕ) → ((k : ℕ) → k < n → get_or a (i + k) 0 ≡ get_or b (i + k) 0) → le n (drop i a) ≡ le n (drop i b)
unfolding le
le_same_from zero i a b h = refl
le_same_from (suc n) i a b h =
    let e : get_or a i 0 ≡ get_or b i 0 = rw add-zero at (h 0 (omega arith)) in
    let more = le_same_from n (suc i) a b (λ k l. rw (suc-add, ← add-suc) (h (suc k) (omega arith))) in
    rw (le_at n i a, le_at n i b, e, more)

-- what `array::from_fn` made, where a call of its closure answers the byte at its place
module _ {F : Type 0} (g : Mut F (ℕ × Unit {0}) ℕ) (f : F) (s : List ℕ)
    (call : (i b : ℕ) (q : F) → Called g f (i, tt) b q → (q ≡ f) × (b ≡ get_or s i 0)) where
  made_from : (n i : ℕ) (a : List ℕ) → IsFromFnResultFrom g f a i n → (k : ℕ) → k < n → get_or a (i + k) 0 ≡ get_or s (i + k) 0
  made_from zero i a h k l = absurd (not-suc-le-zero l)
  made_from (suc n) i a (q, b, at, made, more) zero l = rw add-zero (at.1 0 ∙ (call i b q made).1)
  made_from (suc n) i a (q, b, at, made, more) (suc k) l =
      let p = subst (λ (v : F). IsFromFnResultFrom g v a (i + 1) n) (call i b q made).0 more in
      let e : i + suc k ≡ i + 1 + k = omega arith in
      rw e (made_from n (i + 1) a p k (omega arith))

  pub le_made : (n : ℕ) (a : List ℕ) → IsFromFnResult g f a n → le n a ≡ le n s
  le_made n a h = le_same_from n 0 a s (made_from n 0 a h.each)

-- the numbers of the library's `from_le_bytes`
pub le_2 : (s : List ℕ) → from_le_bytes w16 s ≡ le 2 s
unfolding le
le_2 s = omega (arith, le_at 1 0 s, le_at 0 1 s)

pub le_4 : (s : List ℕ) → from_le_bytes w32 s ≡ le 4 s
unfolding le
le_4 s = omega (arith, le_at 3 0 s, le_at 2 1 s, le_at 1 2 s, le_at 0 3 s)

pub le_8 : (s : List ℕ) → from_le_bytes w64 s ≡ le 8 s
unfolding le
le_8 s = omega (arith, le_at 7 0 s, le_at 6 1 s, le_at 5 2 s, le_at 4 3 s, le_at 3 4 s, le_at 2 5 s, le_at 1 6 s, le_at 0 7 s)

-- -1 - k and -m as data. Assumes nothing.
use mathlib.Core.Path.{◌≡◌, refl, ap}
use Prim.Native.Nat.{ℕ, zero, suc, ◌-◌}
use native.Mathlib.Nat.{zero-add}
use native.Mathlib.Omega.{arith}
use lib.IntN.{pos, negsuc, neg_ℤ, ◌-ℤ◌}

pub minus_one : (k : ℕ) → negsuc 0 -ℤ pos k ≡ negsuc k
minus_one zero = refl
minus_one (suc k) = ap (λ (n : ℕ). negsuc (suc n)) (zero-add k)

pub neg_is : (m : ℕ) → (m ≡ 0 → ⊥) → neg_ℤ (pos m) ≡ negsuc (m - 1)
neg_is m h = let e : m ≡ suc (m - 1) = omega arith in ap (λ (n : ℕ). neg_ℤ (pos n)) e

-- A sum of i64s in 128 bits: what one more does to it and to its bounds.
-- Assumes nothing.
use Prim.Native.Nat.{ℕ, suc, ◌+◌, ◌-◌, ◌*◌, ◌^◌, ◌<◌}
use mathlib.Core.Path.{◌≡◌, refl, ap, ◌∙◌}
use mathlib.Core.Bool.{Bool, true, false, cond}
use lib.Dec.{ltb}
use borrow.Author.Tests.{ltb-true, ltb-false, lt-ltb, le-ltb}
use Rattle.std.specs.Prelude.{Result, Ok, Err, OkIff, IsErrAnd, MatchResult}
use Rattle.wire.specs.declared.refusal.Refusal.{Refusal}
use Rattle.drift.specs.Entry.{fits64}
use Rattle.drift.proofs.Integers.{fits_of}
use Rattle.drift.proofs.Answers.{value_if}
use native.Mathlib.Omega.{arith}
use lib.IntN.{ℤ, pos, negsuc, neg_ℤ, sub_ℕ, ◌+ℤ◌}
use lib.Signed.{mag, ◌≤ℤ◌}
use mir.Syntax.{w64, w128}
use mir.Val.{SFits}
use Rattle.std.proofs.lemmas.Int.{ints}

module _ (k : ℕ) (s z : ℤ) (low : neg_ℤ (pos (k * 0x8000_0000_0000_0000)) ≤ℤ s) (high : s ≤ℤ pos (k * 0x8000_0000_0000_0000)) (f : SFits w64 z) where
  pub sum_fits : k < 2048 → SFits w128 (s +ℤ z)
  sum_fits h = omega (arith, ints)

  pub low_next : neg_ℤ (pos ((k + 1) * 0x8000_0000_0000_0000)) ≤ℤ (s +ℤ z)
  low_next = omega (arith, ints)

  pub high_next : (s +ℤ z) ≤ℤ pos ((k + 1) * 0x8000_0000_0000_0000)
  high_next = omega (arith, ints)

pub sum_next : (s z t : ℤ) → (s +ℤ z) +ℤ t ≡ s +ℤ (z +ℤ t)
sum_next s z t = omega (arith, ints)

pub zero_sum : (t : ℤ) → pos 0 +ℤ t ≡ t
zero_sum t = omega (arith, ints)

pub sum_zero : (s : ℤ) → s +ℤ pos 0 ≡ s
sum_zero s = omega (arith, ints)

-- differences of naturals: the same where they are as far apart
pub sub_same : (a b c d : ℕ) → a + d ≡ c + b → sub_ℕ a b ≡ sub_ℕ c d
sub_same a b c d e = by (ltb a b) refl
  where
    by : (v : Bool) → ltb a b ≡ v → cond v (negsuc (b - suc a)) (pos (a - b)) ≡ sub_ℕ c d
    by true q =
        let h = ltb-true a b q in
        let k : b - suc a ≡ d - suc c = omega arith in
        rw (lt-ltb c d (omega arith)) (ap negsuc k)
    by false q =
        let h = ltb-false a b q in
        let k : a - b ≡ c - d = omega arith in
        rw (le-ltb c d (omega arith)) (ap pos k)

-- a sum in 128 bits that has to be an i64
module _ {E : Type 0} {Q : E → Refusal → Type 0} where
  pub checked : (t : Result ℤ E) (r : Result ℤ Refusal) (s : ℤ) → OkIff t (SFits w64 s) s → MatchResult t (λ x. r ≡ Ok x) (λ e. IsErrAnd r (Q e))
      → ((e : E) (d : Refusal) → Q e d → d ≡ Refusal.Overflow) → r ≡ value_if (fits64 s) s
  checked (Ok x) r s o m q = m ∙ rw (lt-ltb (mag s) (2 ^ 63) o.0.sfits, o.1)
  checked (Err e) r s o m q = by (fits64 s) refl
    where
      by : (v : Bool) → fits64 s ≡ v → r ≡ value_if v s
      by true h = absurd (o (fits_of s h))
      by false h = over r m
        where
          over : (r : Result ℤ Refusal) → IsErrAnd r (Q e) → r ≡ Err Refusal.Overflow
          over (Ok x) k = absurd k
          over (Err d) k = ap Err (q e d k)

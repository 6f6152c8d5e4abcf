-- A weight that lies within 1,000 either way is finite: the two comparisons are refusal 11's test.
-- Assumes nothing.
use mathlib.Core.Path.{◌≡◌, refl}
use Prim.Native.Nat.{ℕ, ◌^◌, ◌<◌}
use mathlib.Core.Bool.{Bool, true, false, not, cond, ◌&&◌}
use lib.Dec.{T}
use lib.IntN.{pos}
use lib.Ieee.{Float, nan, inf, fin, binary64, le, neg, of_int, of_bits, to_bits, is_nan}
use lib.Ieee.Bits.{to_bits-of_bits}
use Rattle.drift.specs.Entry.{weight_ok}
use Rattle.drift.proofs.Integers.{never}

and_cond : (a b : Bool) → (a && b) ≡ cond a b false
and_cond true b = refl
and_cond false b = refl

pub weight_tests : (w : Float) → weight_ok w ≡ cond (le (neg (of_int binary64 (pos 1000))) w) (le w (of_int binary64 (pos 1000))) false
unfolding weight_ok le neg of_int
weight_tests nan = refl
weight_tests (inf true) = refl
weight_tests (inf false) = refl
weight_tests (fin s m e) = and_cond (le (neg (of_int binary64 (pos 1000))) (fin s m e)) (le (fin s m e) (of_int binary64 (pos 1000)))

-- ---- the bits of a target that passes are those given, so that negative zero stays
weight_fine : (w : Float) → weight_ok w ≡ true → T (not (is_nan w))
unfolding weight_ok is_nan
weight_fine nan e = never e
weight_fine (inf s) e = tt
weight_fine (fin s m x) e = tt

pub target_bits : (n : ℕ) → n < 2 ^ 64 → weight_ok (of_bits binary64 n) ≡ true → to_bits binary64 (of_bits binary64 n) ≡ n
target_bits n h e = to_bits-of_bits binary64 n h (weight_fine (of_bits binary64 n) e)

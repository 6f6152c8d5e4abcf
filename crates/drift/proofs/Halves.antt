-- A search by halves: what `words::place` asks.
-- Assumes nothing.
use Prim.Native.Nat.{ℕ, ◌+◌, ◌-◌, ◌/◌, ◌≤◌, ◌<◌}
use mathlib.Core.Path.{◌≡◌, refl}
use mathlib.Core.Bool.{Bool, true, false, cond}
use mathlib.Core.List.{List}
use mathlib.Core.Logic.{⊎_elim}
use native.Mathlib.Nat.{eq-or-lt_of_le}
use native.Mathlib.Omega.{arith}
use lib.Dec.{ltb}
use borrow.Author.Tests.{ltb-true, ltb-false}
use lib.ListN.{length, take, get_or}
use lib.Seq.{length-take-le, get_or-take, take-length}
use Rattle.drift.specs.Code.{Rising, Within}
use Rattle.drift.proofs.Ordered.{rise}

pub all_rising : (ks : List ℕ) → Rising ks → Rising (take (length ks) ks)
all_rising ks r = rw (take-length ks) r

module _ (ks : List ℕ) (n : ℕ) (h : n ≤ length ks) (r : Rising (take n ks)) where
  pub rises : (i j : ℕ) → i < j → j < n → get_or ks i 0 < get_or ks j 0
  rises i j l m =
      let k : i < n = omega arith in
      rw (get_or-take n ks i 0 k, get_or-take n ks j 0 m) at (rise r i j 0 l (rw (length-take-le n ks h) m))

  level : (i j : ℕ) → i ≤ j → j < n → get_or ks i 0 ≤ get_or ks j 0
  level i j l m = ⊎_elim (λ e. rw e (omega arith)) (λ k. let s = rises i j k m in omega arith) (eq-or-lt_of_le l)

  -- one test: of the two halves the second is left, or the first
  module _ (x low size : ℕ) (p : 0 < size) (w : Within ks n x low (low + size)) where
    abbrev half : ℕ
    half = size - size / 2

    abbrev mid : ℕ
    mid = low + half - 1

    pub halved : (b : ℕ) → b ≡ cond (ltb (get_or ks mid 0) x) half 0 → Within ks n x (low + b) (low + b + size / 2)
    halved b q = by (ltb (get_or ks mid 0) x) refl q
      where
        by : (v : Bool) → ltb (get_or ks mid 0) x ≡ v → b ≡ cond v half 0 → Within ks n x (low + b) (low + b + size / 2)
        by true e q =
            let l = ltb-true (get_or ks mid 0) x e in
            let m = w.most in
            record {
              least = omega arith;
              most = omega arith;
              below = λ i k. let s = level i mid (omega arith) (omega arith) in omega arith;
              above = λ i k. w.above i (omega arith);
            }
        by false e q =
            let l = ltb-false (get_or ks mid 0) x e in
            let m = w.most in
            record {
              least = omega arith;
              most = omega arith;
              below = λ i k. w.below i (omega arith);
              above = λ i k o. let s = level mid i (omega arith) o in omega arith;
            }

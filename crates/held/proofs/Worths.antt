-- The worths of the lines in the arrays, one after the other: what the loop of `held::sum_worth` asks.
-- Assumes nothing.
use Prim.Native.Nat.{ℕ, zero, suc, ◌+◌, ◌≤◌, ◌<◌}
use mathlib.Core.Path.{◌≡◌, refl, ap}
use mathlib.Core.Bool.{true, false}
use mathlib.Core.List.{List, [], ◌∷◌, map}
use lib.IntN.{ℤ, pos, ◌+ℤ◌}
use lib.ListN.{length, take}
use lib.Seq.{length-take-le, get_or-take}
use native.Mathlib.Omega.{arith}
use Rattle.drift.specs.Symbols.{all_where}
use Rattle.drift.specs.Entry.{Line, fits64}
use Rattle.drift.specs.Code.{run, line_at, lines_at}
use Rattle.drift.proofs.Runs.{left, left_next, left_none}
use Rattle.held.specs.Value.{worth, total}

module _ (f : ℕ → Line) (n : ℕ) where
  pub total_next : (k : ℕ) → k < n → total (map worth (left f n k)) ≡ worth (f k) +ℤ total (map worth (left f n (k + 1)))
  unfolding total
  total_next k h = rw (left_next f n k h)

  pub total_end : (k : ℕ) → n ≤ k → total (map worth (left f n k)) ≡ pos 0
  unfolding total
  total_end k h = rw (left_none f n k h)

  pub fits_next : (k : ℕ) → k < n → fits64 (worth (f k)) ≡ true → all_where fits64 (map worth (left f n k)) ≡ all_where fits64 (map worth (left f n (k + 1)))
  unfolding all_where
  fits_next k h e = rw (left_next f n k h, e)

  pub fits_stop : (k : ℕ) → k < n → fits64 (worth (f k)) ≡ false → all_where fits64 (map worth (left f n k)) ≡ false
  unfolding all_where
  fits_stop k h e = rw (left_next f n k h, e)

  pub fits_end : (k : ℕ) → n ≤ k → all_where fits64 (map worth (left f n k)) ≡ true
  unfolding all_where
  fits_end k h = rw (left_none f n k h)

pub worth_same : (f g : ℕ → Line) (k n : ℕ) → ((i : ℕ) → i < k + n → worth (f i) ≡ worth (g i)) → map worth (run f k n) ≡ map worth (run g k n)
unfolding run
worth_same f g k zero h = refl
worth_same f g k (suc n) h =
    rw (h k (omega arith)) (ap (λ (l : List ℤ). worth (g k) ∷ l) (worth_same f g (k + 1) n (λ i l. h i (omega arith))))

-- the lines in the fronts of two arrays are those in the arrays
pub front_worth : (ks us ts cs : List ℕ) (n : ℕ) → n ≤ length us
    → map worth (lines_at [] (take n us) [] (take n cs) (length (take n us))) ≡ map worth (lines_at ks us ts cs n)
front_worth ks us ts cs n h =
    rw (length-take-le n us h)
    (worth_same (line_at [] (take n us) [] (take n cs)) (line_at ks us ts cs) 0 n (λ i l. rw (get_or-take n us i 0 (omega arith), get_or-take n cs i 0 (omega arith))))

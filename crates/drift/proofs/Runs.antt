-- The lines in the arrays, one after the other: what the loops of `Table::put_entries` and of `held::sum_worth` ask.
-- Assumes nothing.
use Prim.Native.Nat.{ℕ, zero, suc, ◌+◌, ◌-◌, ◌*◌, ◌≤◌, ◌<◌}
use mathlib.Core.Path.{◌≡◌, refl, sym, ap, ◌∙◌}
use mathlib.Core.Bool.{Bool, true, false}
use mathlib.Core.List.{List, [], ◌∷◌, map}
use native.Mathlib.Nat.{sub-zero}
use native.Mathlib.Omega.{arith}
use borrow.Author.Tests.{le-leb, lt-leb}
use lib.IntN.{ℤ}
use lib.Ieee.{Float, binary64, add, mul, of_bits}
use lib.ListN.{length, replicate}
use lib.Seq.{sets}
use Rattle.wire.specs.Table.{encoded, padded}
use Rattle.wire.proofs.Records.{sets_append, padded_none, padded_behind, length_encoded}
use Rattle.drift.specs.Symbols.{all_where}
use Rattle.drift.specs.Entry.{Line, line_entry, line_fits, line_bytes}
use Rattle.drift.specs.Report.{squares, tracking_error, drifted, report_of}
use Rattle.drift.specs.Code.{run}
use Rattle.drift.proofs.Bytes64.{entry_size}
use Rattle.std.specs.Prelude.{Ok, Err}
use Rattle.wire.specs.declared.refusal.Refusal.TheVariants as Refusal

pub length_run : {A : Type 0} (f : ℕ → A) (k n : ℕ) → length (run f k n) ≡ n
unfolding run
length_run f k zero = refl
length_run f k (suc n) = ap suc (length_run f (k + 1) n)

module _ {A : Type 0} (f : ℕ → A) (n : ℕ) where
  -- those from the k-th on
  abbrev pub left : ℕ → List A
  left k = run f k (n - k)

  pub left_all : run f 0 n ≡ left 0
  left_all = rw sub-zero

  pub left_next : (k : ℕ) → k < n → left k ≡ f k ∷ left (k + 1)
  unfolding run
  left_next k h =
      let e : n - k ≡ suc (n - (k + 1)) = omega arith in
      rw e

  pub left_none : (k : ℕ) → n ≤ k → left k ≡ []
  unfolding run
  left_none k h =
      let e : n - k ≡ 0 = omega arith in
      rw e

  -- ---- a test of each
  pub all_next : (g : A → Bool) (k : ℕ) → k < n → g (f k) ≡ true → all_where g (left k) ≡ all_where g (left (k + 1))
  unfolding all_where
  all_next g k h e = rw (left_next k h, e)

  pub all_stop : (g : A → Bool) (k : ℕ) → k < n → g (f k) ≡ false → all_where g (left k) ≡ false
  unfolding all_where
  all_stop g k h e = rw (left_next k h, e)

  pub all_end : (g : A → Bool) (k : ℕ) → n ≤ k → all_where g (left k) ≡ true
  unfolding all_where
  all_end g k h = rw (left_none k h)

-- ---- entries
module _ (f : ℕ → Line) (n : ℕ) (equity : ℤ) where
  pub squares_next : (s : Float) (k : ℕ) → k < n
      → squares s (map (line_entry equity) (left f n k))
      ≡ squares (add binary64 s (mul binary64 (line_entry equity (f k)).diff_weight (line_entry equity (f k)).diff_weight)) (map (line_entry equity) (left f n (k + 1)))
  unfolding squares
  squares_next s k h = rw (left_next f n k h)

  pub squares_end : (s : Float) (k : ℕ) → n ≤ k → squares s (map (line_entry equity) (left f n k)) ≡ s
  unfolding squares
  squares_end s k h = rw (left_none f n k h)

  pub bytes_next : (d : List ℕ) (k : ℕ) → k < n
      → sets d (64 * k) (encoded (line_bytes equity) (left f n k)) ≡ sets (sets d (64 * k) (line_bytes equity (f k))) (64 * (k + 1)) (encoded (line_bytes equity) (left f n (k + 1)))
  unfolding encoded
  bytes_next d k h =
      let e : 64 * k + 64 ≡ 64 * (k + 1) = omega arith in
      rw (left_next f n k h)
      (sets_append d (line_bytes equity (f k)) (encoded (line_bytes equity) (left f n (k + 1))) (64 * k)
      ∙ rw (entry_size (f k).symbol (line_entry equity (f k)), e))

  pub bytes_end : (d : List ℕ) (k : ℕ) → n ≤ k → sets d (64 * k) (encoded (line_bytes equity) (left f n k)) ≡ d
  unfolding encoded
  bytes_end d k h = rw (left_none f n k h)

  -- all of them in a buffer that was zero
  pub bytes_whole : (room : ℕ) → 64 * n ≤ room → sets (replicate room 0) 0 (encoded (line_bytes equity) (run f 0 n)) ≡ padded room (encoded (line_bytes equity) (run f 0 n))
  bytes_whole room h =
      let s = encoded (line_bytes equity) (run f 0 n) in
      let size : length s ≡ 64 * n = length_encoded (line_bytes equity) 64 (λ l. entry_size l.symbol (line_entry equity l)) (run f 0 n) ∙ ap (λ (k : ℕ). 64 * k) (length_run f 0 n) in
      let fit : 0 + length s ≤ room = omega arith in
      ap (λ (z : List ℕ). sets z 0 s) (sym (padded_none room)) ∙ padded_behind room [] s fit

  -- ---- the answer
  pub out_of_range : (room : ℕ) → all_where (line_fits equity) (run f 0 n) ≡ false → (Err Refusal.Overflow) ≡ report_of (run f 0 n) equity room
  unfolding report_of
  out_of_range room e = rw e

  pub no_room : (room : ℕ) → all_where (line_fits equity) (run f 0 n) ≡ true → room < 64 * n → (Err Refusal.NoRoom) ≡ report_of (run f 0 n) equity room
  unfolding report_of
  no_room room e h = rw (e, length_run f 0 n, lt-leb (64 * n) room h)

  pub done : (room : ℕ) (sum : Float) → all_where (line_fits equity) (run f 0 n) ≡ true → 64 * n ≤ room
      → sum ≡ squares (of_bits binary64 0) (map (line_entry equity) (run f 0 n)) → Ok (drifted n (tracking_error sum n)) ≡ report_of (run f 0 n) equity room
  unfolding report_of
  done room sum e h q = rw (e, length_run f 0 n, le-leb (64 * n) room h, q)

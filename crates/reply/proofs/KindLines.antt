-- The kinds of a report's records, written a line each: one turn of the loop. About no function.
-- Assumes nothing.
use Prim.Native.Nat.{ℕ, ◌+◌, ◌*◌, ◌<◌, ◌≤◌}
use mathlib.Core.Path.{◌≡◌, sym, ap, ◌∙◌}
use mathlib.Core.List.{List, [], ◌++◌}
use lib.ListN.{length, drop, length-append}
use lib.Seq.{sets}
use Rattle.wire.specs.Le.{le}
use Rattle.wire.specs.Table.{records, encoded}
use Rattle.wire.proofs.Records.{sets_append}
use Rattle.records.proofs.Walk.{rest, rest_all, rest_next, rest_none}
use Rattle.lines.proofs.Behind.{Wrote}
use Rattle.reply.specs.Text.{kind_line}

-- the lines from the i-th record on
abbrev pub kinds_from : ℕ → List ℕ → ℕ → List ℕ
kinds_from count s i = encoded kind_line (rest (le 4) 48 count s i)

module _ (count : ℕ) (s : List ℕ) where
  pub kinds_all : encoded kind_line (records (le 4) 48 count s) ≡ kinds_from count s 0
  kinds_all = ap (encoded kind_line) (rest_all (le 4) 48 count s)

  kinds_next : (i : ℕ) → i < count → kinds_from count s i ≡ kind_line (le 4 (drop (48 * i) s)) ++ kinds_from count s (i + 1)
  unfolding encoded
  kinds_next i h = rw (rest_next (le 4) 48 count s i h)

  pub kinds_none : (i : ℕ) → count ≤ i → kinds_from count s i ≡ []
  unfolding encoded
  kinds_none i h = rw (rest_none (le 4) 48 count s i h)

  -- one line more
  pub kinds_on : (i : ℕ) → i < count → (d e : List ℕ) (p m : ℕ) → Wrote d p (kind_line (le 4 (drop (48 * i) s))) e m
      → (length (kinds_from count s i) ≡ m + length (kinds_from count s (i + 1)))
      × (sets d p (kinds_from count s i) ≡ sets e (p + m) (kinds_from count s (i + 1)))
  kinds_on i h d e p m w =
      let k = kind_line (le 4 (drop (48 * i) s)) in
      let r = kinds_from count s (i + 1) in (
        ap length (kinds_next i h) ∙ length-append k r ∙ ap (λ (x : ℕ). x + length r) (sym w.0),
        ap (sets d p) (kinds_next i h) ∙ sets_append d k r p ∙ rw (w.0, w.1),
      )

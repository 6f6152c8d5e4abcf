-- A text written after another. About no function.
-- Assumes nothing.
use Prim.Native.Nat.{ℕ, ◌+◌}
use mathlib.Core.Path.{◌≡◌, sym, ◌∙◌}
use mathlib.Core.List.{List, ◌++◌}
use lib.ListN.{length, length-append}
use lib.Seq.{sets}
use Rattle.wire.proofs.Records.{sets_append}

-- `e` is `d` with `t` from `at` on, and `t` has n bytes
abbrev pub Wrote : List ℕ → ℕ → List ℕ → List ℕ → ℕ → Type 0
Wrote d at t e n = (n ≡ length t) × (e ≡ sets d at t)

pub wrote_behind : (d : List ℕ) (at : ℕ) (t e : List ℕ) (n : ℕ) (u f : List ℕ) (m : ℕ) → Wrote d at t e n → Wrote e (at + n) u f m → Wrote d at (t ++ u) f (n + m)
wrote_behind d at t e n u f m p q =
    (rw (length-append t u, p.0, q.0), q.1 ∙ rw (p.1, p.0) (sym (sets_append d t u at)))

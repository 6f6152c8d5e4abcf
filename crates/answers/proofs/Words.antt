-- Numbers written one after the other, and bytes that are all written. About no function. Assumes nothing.
use Prim.Native.Nat.{ℕ, ◌+◌}
use mathlib.Core.Path.{◌≡◌, sym, ap, ◌∙◌}
use mathlib.Core.List.{List, [], ◌++◌, append_assoc, append-nil}
use lib.ListN.{length, replicate, length-append, length-replicate}
use lib.Seq.{sets}
use Rattle.wire.specs.Le.{bytes_of}
use Rattle.wire.proofs.Records.{sets_over}
use Rattle.wire.proofs.Words.{sets_number, two_words}
use Rattle.wire.proofs.Written.{length_bytes_of}

pub three_words : (d : List ℕ) (at x y z : ℕ)
    → sets (sets (sets d at (bytes_of 8 x)) (at + 8) (bytes_of 8 y)) (at + 8 + 8) (bytes_of 8 z) ≡ sets d at (bytes_of 8 x ++ bytes_of 8 y ++ bytes_of 8 z)
three_words d at x y z = simp (append_assoc, sets_number)

-- ---- where all bytes are written, what they held does not matter
pub all_written : (d vs : List ℕ) → length vs ≡ length d → sets d 0 vs ≡ vs
all_written d vs e = ap (λ (l : List ℕ). sets l 0 vs) (sym (append-nil d)) ∙ sets_over d vs [] e ∙ append-nil vs

-- they are as if cleared before
as_cleared : (d vs : List ℕ) → length vs ≡ length d → sets d 0 vs ≡ sets (replicate (length d) 0) 0 vs
as_cleared d vs e = all_written d vs e ∙ sym (all_written (replicate (length d) 0) vs (e ∙ sym (length-replicate (length d) 0)))

-- one number, and two
pub number_as_cleared : (d : List ℕ) (x : ℕ) → length d ≡ 8 → sets d 0 (bytes_of 8 x) ≡ sets (replicate (length d) 0) 0 (bytes_of 8 x)
number_as_cleared d x e = as_cleared d (bytes_of 8 x) (length_bytes_of 8 x ∙ sym e)

pub numbers_as_cleared : (d : List ℕ) (x y : ℕ) → length d ≡ 16
    → sets (sets d 0 (bytes_of 8 x)) 8 (bytes_of 8 y) ≡ sets (sets (replicate (length d) 0) 0 (bytes_of 8 x)) 8 (bytes_of 8 y)
numbers_as_cleared d x y e =
    let size : length (bytes_of 8 x ++ bytes_of 8 y) ≡ 16 = rw (length-append, length_bytes_of 8 x, length_bytes_of 8 y) in
    two_words d 0 x y ∙ as_cleared d (bytes_of 8 x ++ bytes_of 8 y) (size ∙ sym e) ∙ sym (two_words (replicate (length d) 0) 0 x y)

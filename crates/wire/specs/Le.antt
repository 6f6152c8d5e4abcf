-- Little-endian numbers at the front of a list of bytes. Past the end of the list a byte reads as 0.
-- Assumes nothing.
use Rattle.std.specs.Prelude.{ℕ, zero, suc, ◌+◌, ◌*◌, ◌%◌, ◌/◌, List, [], ◌∷◌, Bool, true, false, ◌&&◌, eqb}

-- the number in the first n bytes, least byte first
unfoldable pub le : ℕ → List ℕ → ℕ
le zero s = 0
le (suc n) [] = 0
le (suc n) (b ∷ s) = b + 256 * le n s

-- n bytes of x, least byte first
unfoldable pub bytes_of : ℕ → ℕ → List ℕ
bytes_of zero x = []
bytes_of (suc n) x = x % 256 ∷ bytes_of n (x / 256)

-- the same bytes, as many of them
unfoldable pub same_bytes : List ℕ → List ℕ → Bool
same_bytes [] [] = true
same_bytes [] (b ∷ t) = false
same_bytes (a ∷ s) [] = false
same_bytes (a ∷ s) (b ∷ t) = eqb a b && same_bytes s t

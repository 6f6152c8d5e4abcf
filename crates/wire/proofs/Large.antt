-- The definitions compute on a list of 60,000 bytes: 7,500 numbers of eight bytes, written and read back. About no function.
-- Assumes nothing.
use Prim.Native.Nat.{ℕ, zero, suc, ◌+◌}
use mathlib.Core.Path.{◌≡◌, refl}
use mathlib.Core.List.{List, [], ◌∷◌}
use mathlib.Core.Bool.{true}
use lib.ListN.{length}
use lib.Dec.{leb}
use Rattle.wire.specs.Le.{le, bytes_of, same_bytes}
use Rattle.wire.specs.Table.{every, records, encoded}

-- n numbers from x down
down : ℕ → List ℕ
down zero = []
down (suc n) = n ∷ down n

sum : List ℕ → ℕ
sum [] = 0
sum (x ∷ xs) = x + sum xs

bytes : List ℕ
unfolding encoded bytes_of down
bytes = encoded (bytes_of 8) (down 7500)

size : length bytes ≡ 60000
unfolding bytes
size = refl

small : every (λ (s : List ℕ). leb (le 8 s) 7499) 8 7500 bytes ≡ true
unfolding bytes every le
small = refl

total : sum (records (le 8) 8 7500 bytes) ≡ 28121250
unfolding bytes sum records le
total = refl

again : same_bytes bytes (encoded (bytes_of 8) (records (le 8) 8 7500 bytes)) ≡ true
unfolding bytes records le same_bytes
again = refl

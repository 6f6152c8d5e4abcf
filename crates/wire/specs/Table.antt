-- Tables: records of w bytes each, one after the other, at the front of a list of bytes.
-- Assumes nothing.
use Rattle.std.specs.Prelude.{ℕ, zero, suc, ◌-◌, List, [], ◌∷◌, ◌++◌, Bool, true, ◌&&◌, length, drop, replicate}

-- each of n records passes the test
unfoldable pub every : (List ℕ → Bool) → ℕ → ℕ → List ℕ → Bool
every f w zero s = true
every f w (suc n) s = f s && every f w n (drop w s)

-- what each of n records stands for
unfoldable pub records : {A : Type 0} → (List ℕ → A) → ℕ → ℕ → List ℕ → List A
records f w zero s = []
records f w (suc n) s = f s ∷ records f w n (drop w s)

-- the bytes of a list of values, one record after the other
unfoldable pub encoded : {A : Type 0} → (A → List ℕ) → List A → List ℕ
encoded f [] = []
encoded f (x ∷ xs) = f x ++ encoded f xs

-- a lent buffer of n bytes that holds these bytes, and zeros after them
unfoldable pub padded : ℕ → List ℕ → List ℕ
padded n s = s ++ replicate (n - length s) 0

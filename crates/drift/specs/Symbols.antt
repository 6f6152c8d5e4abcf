-- Maps and the sorted list of symbols. `proofs/Sorted.antt` shows that the sort is one: in order, without repeats, and of the same symbols.
-- Assumes nothing.
use Rattle.std.specs.Prelude.{List, [], ◌∷◌, Bool, true, cond, ◌&&◌}
use Rattle.symbol.specs.Symbol.{same_symbol, before}
use Rattle.symbol.specs.declared.Symbol.{Symbol}

-- A map that is collected from a list, asked for a symbol: each row of the symbol takes the place of what was there, so the last wins.
unfoldable pub last_of : {B : Type 0} → B → Symbol → List (Symbol × B) → B
last_of absent y [] = absent
last_of absent y (r ∷ rs) = last_of (cond (same_symbol r.0 y) r.1 absent) y rs

unfoldable pub keys : {B : Type 0} → List (Symbol × B) → List Symbol
keys [] = []
keys (r ∷ rs) = r.0 ∷ keys rs

-- y put in its place in a sorted list; one that stands there already is not put twice
unfoldable pub inserted : {A : Type 0} → (A → A → Bool) → A → List A → List A
inserted first y [] = y ∷ []
inserted first y (z ∷ zs) = cond (first y z) (y ∷ z ∷ zs) (cond (first z y) (z ∷ inserted first y zs) (z ∷ zs))

-- each of a list put into one that is sorted
unfoldable pub sorted_with : {A : Type 0} → (A → A → Bool) → List A → List A → List A
unfolding inserted
sorted_with first zs [] = zs
sorted_with first zs (y ∷ ys) = sorted_with first (inserted first y zs) ys

-- `sort` and `dedup`
abbrev pub symbols_of : List Symbol → List Symbol
symbols_of ys = sorted_with before [] ys

-- each passes a test
unfoldable pub all_where : {A : Type 0} → (A → Bool) → List A → Bool
all_where f [] = true
all_where f (x ∷ xs) = f x && all_where f xs

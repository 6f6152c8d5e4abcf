-- Lists in order: put in place, numbers stay so; and what each element of a sorted list has.
-- Assumes nothing.
use Prim.Native.Nat.{ℕ, zero, suc, ◌<◌}
use mathlib.Core.Path.{◌≡◌, refl, ap, ◌∙◌}
use mathlib.Core.Bool.{Bool, true, false, cond}
use mathlib.Core.List.{List, [], ◌∷◌, ◌++◌, map}
use native.Mathlib.Nat.{not-suc-le-zero, le_of_suc-le-suc}
use native.Mathlib.Omega.{arith}
use lib.Dec.{ltb}
use borrow.Author.Tests.{ltb-true}
use lib.ListN.{length, get_or}
use Rattle.wire.proofs.Records.{Each, none, more}
use Rattle.drift.specs.Symbols.{inserted, sorted_with}
use Rattle.drift.specs.Code.{Over, Rising}
use Rattle.drift.specs.Code as Code

over_less : {m n : ℕ} {xs : List ℕ} → m < n → Over n xs → Over m xs
over_less h Code.Over.none = Code.Over.none
over_less {m} h (Code.Over.more {x} l o) = let k : m < x = omega arith in Code.Over.more k (over_less h o)

over_at : {m : ℕ} {xs : List ℕ} → Over m xs → (i d : ℕ) → i < length xs → m < get_or xs i d
over_at Code.Over.none i d h = absurd (not-suc-le-zero h)
over_at (Code.Over.more l o) zero d h = l
over_at (Code.Over.more l o) (suc i) d h = over_at o i d (le_of_suc-le-suc h)

-- a number before another is the smaller
pub rise : {xs : List ℕ} → Rising xs → (i j d : ℕ) → i < j → j < length xs → get_or xs i d < get_or xs j d
rise Code.Rising.none i j d l h = absurd (not-suc-le-zero h)
rise (Code.Rising.more o r) i zero d l h = absurd (not-suc-le-zero l)
rise (Code.Rising.more o r) zero (suc j) d l h = over_at o j d (le_of_suc-le-suc h)
rise (Code.Rising.more o r) (suc i) (suc j) d l h = rise r i j d (le_of_suc-le-suc l) (le_of_suc-le-suc h)

over_inserted : (m y : ℕ) (zs : List ℕ) → m < y → Over m zs → Over m (inserted ltb y zs)
unfolding inserted
over_inserted m y [] l Code.Over.none = Code.Over.more l Code.Over.none
over_inserted m y (z ∷ zs) l (Code.Over.more k o) = by (over_inserted m y zs l o) (ltb y z) (ltb z y)
  where
    by : Over m (inserted ltb y zs) → (u v : Bool) → Over m (cond u (y ∷ z ∷ zs) (cond v (z ∷ inserted ltb y zs) (z ∷ zs)))
    by d true v = Code.Over.more l (Code.Over.more k o)
    by d false true = Code.Over.more k d
    by d false false = Code.Over.more k o

pub rising_inserted : (y : ℕ) (zs : List ℕ) → Rising zs → Rising (inserted ltb y zs)
unfolding inserted
rising_inserted y [] Code.Rising.none = Code.Rising.more Code.Over.none Code.Rising.none
rising_inserted y (z ∷ zs) (Code.Rising.more o r) = by (rising_inserted y zs r) (ltb y z) refl (ltb z y) refl
  where
    by : Rising (inserted ltb y zs) → (u : Bool) → ltb y z ≡ u → (v : Bool) → ltb z y ≡ v → Rising (cond u (y ∷ z ∷ zs) (cond v (z ∷ inserted ltb y zs) (z ∷ zs)))
    by d true e v g = let l = ltb-true y z e in Code.Rising.more (Code.Over.more l (over_less l o)) (Code.Rising.more o r)
    by d false e true g = Code.Rising.more (over_inserted z y zs (ltb-true z y g) o) d
    by d false e false g = Code.Rising.more o r

pub rising_sorted : (zs ys : List ℕ) → Rising zs → Rising (sorted_with ltb zs ys)
unfolding sorted_with
rising_sorted zs [] r = r
rising_sorted zs (y ∷ ys) r = rising_sorted (inserted ltb y zs) ys (rising_inserted y zs r)

-- ---- what each element has
module _ {A : Type 0} (first : A → A → Bool) (P : A → Type 0) where
  pub each_inserted : (y : A) (zs : List A) → P y → Each P zs → Each P (inserted first y zs)
  unfolding inserted
  each_inserted y [] p none = more p none
  each_inserted y (z ∷ zs) p (more q qs) = by (each_inserted y zs p qs) (first y z) (first z y)
    where
      by : Each P (inserted first y zs) → (u v : Bool) → Each P (cond u (y ∷ z ∷ zs) (cond v (z ∷ inserted first y zs) (z ∷ zs)))
      by d true v = more p (more q qs)
      by d false true = more q d
      by d false false = more q qs

  pub each_sorted : (zs ys : List A) → Each P zs → Each P ys → Each P (sorted_with first zs ys)
  unfolding sorted_with
  each_sorted zs [] q none = q
  each_sorted zs (y ∷ ys) q (more p ps) = each_sorted (inserted first y zs) ys (each_inserted y zs p q) ps

pub each_append : {A : Type 0} (P : A → Type 0) (xs ys : List A) → Each P xs → Each P ys → Each P (xs ++ ys)
each_append P [] ys none q = q
each_append P (x ∷ xs) ys (more p ps) q = more p (each_append P xs ys ps q)

pub each_at : {A : Type 0} (P : A → Type 0) {xs : List A} → Each P xs → (i : ℕ) (d : A) → i < length xs → P (get_or xs i d)
each_at P none i d h = absurd (not-suc-le-zero h)
each_at P (more p ps) zero d h = p
each_at P (more p ps) (suc i) d h = each_at P ps i d (le_of_suc-le-suc h)

-- ---- one list after another
pub sorted_append : {A : Type 0} (first : A → A → Bool) (zs xs ys : List A) → sorted_with first zs (xs ++ ys) ≡ sorted_with first (sorted_with first zs xs) ys
unfolding sorted_with
sorted_append first zs [] ys = refl
sorted_append first zs (x ∷ xs) ys = sorted_append first (inserted first x zs) xs ys

-- ---- by a function of each element that keeps the order
module _ {A B : Type 0} (g : A → B) (first : A → A → Bool) (after : B → B → Bool) (is : (x y : A) → first x y ≡ after (g x) (g y)) where
  map_inserted : (y : A) (zs : List A) → map g (inserted first y zs) ≡ inserted after (g y) (map g zs)
  unfolding inserted
  map_inserted y [] = refl
  map_inserted y (z ∷ zs) = by (map_inserted y zs) (first y z) refl (first z y) refl
    where
      by : map g (inserted first y zs) ≡ inserted after (g y) (map g zs) → (u : Bool) → first y z ≡ u → (v : Bool) → first z y ≡ v
          → map g (cond u (y ∷ z ∷ zs) (cond v (z ∷ inserted first y zs) (z ∷ zs)))
          ≡ cond (after (g y) (g z)) (g y ∷ g z ∷ map g zs) (cond (after (g z) (g y)) (g z ∷ inserted after (g y) (map g zs)) (g z ∷ map g zs))
      by d true e v h = rw (← is y z, e)
      by d false e true h = rw (← is y z, e, ← is z y, h) (ap (λ (l : List B). g z ∷ l) d)
      by d false e false h = rw (← is y z, e, ← is z y, h)

  pub map_sorted : (zs ys : List A) → map g (sorted_with first zs ys) ≡ sorted_with after (map g zs) (map g ys)
  unfolding sorted_with
  map_sorted zs [] = refl
  map_sorted zs (y ∷ ys) = map_sorted (inserted first y zs) ys ∙ ap (λ (l : List B). sorted_with after l (map g ys)) (map_inserted y zs)

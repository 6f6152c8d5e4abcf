-- A number put in its place in an array, and what is said of it: what `words::insert` and `words::note` ask.
-- Assumes nothing.
use Prim.Native.Nat.{ℕ, zero, suc, ◌+◌, ◌-◌, ◌≤◌, ◌<◌}
use mathlib.Core.Path.{◌≡◌, refl, sym, ap, ◌∙◌}
use mathlib.Core.Logic.{⊎_elim}
use mathlib.Core.Bool.{Bool, true, false, cond, ◌&&◌}
use mathlib.Core.List.{List, [], ◌∷◌, ◌++◌, append_assoc}
use native.Mathlib.Nat.{not-suc-le-zero, le_of_suc-le-suc, sub-zero, suc-sub-suc, eq-or-lt_of_le}
use native.Mathlib.Omega.{arith}
use lib.Dec.{ltb, eqb}
use borrow.Author.Tests.{ltb-true, ltb-false, eqb-true, eqb-false, lt-ltb, le-ltb, eq-eqb, ne_eqb}
use lib.ListN.{length, take, drop, get_or, set, length-append, length-drop}
use lib.Seq.{length-take-le, set_at, take_at, take-suc, append_snoc, get_or-set_same, get_or-set_other, get_or-take}
use Rattle.symbol.proofs.Text.{and_left, and_right}
use Rattle.drift.specs.Symbols.{inserted}
use Rattle.drift.specs.Code.{Rising, Place, found}
use Rattle.drift.proofs.Integers.{never}
use Rattle.drift.proofs.Opened.{opened}
use Rattle.drift.proofs.Halves.{rises}

-- ---- along the list
shifted : {z x n p : ℕ} {zs : List ℕ} → Place (z ∷ zs) (suc n) x (suc p) → Place zs n x p
shifted b =
    let m = b.most in
    record { least = omega arith; most = omega arith; below = λ i l. b.below (suc i) (omega arith); above = λ i l m. b.above (suc i) (omega arith) (omega arith) }

new_in : (ks : List ℕ) (n x p : ℕ) → n ≤ length ks → Place ks n x p → (p < n → get_or ks p 0 ≡ x → ⊥)
    → inserted ltb x (take n ks) ≡ take p ks ++ (x ∷ take (n - p) (drop p ks))
unfolding inserted
new_in ks zero x zero h b f = refl
new_in ks zero x (suc p) h b f = let m = b.most in absurd (omega arith)
new_in [] (suc n) x p h b f = absurd (not-suc-le-zero h)
new_in (z ∷ zs) (suc n) x zero h b f =
    let l : x ≤ z = b.above 0 (omega arith) (omega arith) in
    let k : x < z = ⊎_elim (λ e. absurd (f (omega arith) (sym e))) (λ k. k) (eq-or-lt_of_le l) in
    rw (lt-ltb x z k, sub-zero)
new_in (z ∷ zs) (suc n) x (suc p) h b f =
    let l : z < x = b.below 0 (omega arith) in
    rw (le-ltb x z (omega arith), lt-ltb z x l, suc-sub-suc n p)
    (ap (λ (s : List ℕ). z ∷ s) (new_in zs n x p (le_of_suc-le-suc h) (shifted b) (λ m. f (omega arith))))

old_in : (ks : List ℕ) (n x p : ℕ) → n ≤ length ks → Place ks n x p → p < n → get_or ks p 0 ≡ x → inserted ltb x (take n ks) ≡ take n ks
unfolding inserted
old_in ks zero x p h b l e = absurd (not-suc-le-zero l)
old_in [] (suc n) x p h b l e = absurd (not-suc-le-zero h)
old_in (z ∷ zs) (suc n) x zero h b l e = rw (le-ltb x z (omega arith), le-ltb z x (omega arith))
old_in (z ∷ zs) (suc n) x (suc p) h b l e =
    let k : z < x = b.below 0 (omega arith) in
    rw (le-ltb x z (omega arith), lt-ltb z x k) (ap (λ (s : List ℕ). z ∷ s) (old_in zs n x p (le_of_suc-le-suc h) (shifted b) (le_of_suc-le-suc l) e))

-- ---- the first n alone
module _ (ks : List ℕ) (n x p : ℕ) (h : n ≤ length ks) where
  pub front_place : Place (take n ks) (length (take n ks)) x p → Place ks n x p
  front_place b =
      let e : length (take n ks) ≡ n = length-take-le n ks h in
      let m = b.most in
      record {
        least = b.least;
        most = omega arith;
        below = λ i l. rw (← get_or-take n ks i 0 (omega arith)) (b.below i l);
        above = λ i l k. rw (← get_or-take n ks i 0 k) (b.above i l (omega arith));
      }

  pub front_found : found (take n ks) (length (take n ks)) p x ≡ found ks n p x
  front_found = rw (length-take-le n ks h) (by (ltb p n) refl)
    where
      by : (v : Bool) → ltb p n ≡ v → (v && eqb (get_or (take n ks) p 0) x) ≡ (v && eqb (get_or ks p 0) x)
      by true e = rw (get_or-take n ks p 0 (ltb-true p n e))
      by false e = refl

module _ (ks : List ℕ) (n x p : ℕ) where
  pub there : found ks n p x ≡ true → (p < n) × (get_or ks p 0 ≡ x)
  there f =
      (ltb-true p n (and_left (ltb p n) (eqb (get_or ks p 0) x) f), eqb-true (get_or ks p 0) x (and_right (ltb p n) (eqb (get_or ks p 0) x) f))

  absent : found ks n p x ≡ false → p < n → get_or ks p 0 ≡ x → ⊥
  absent f k e =
      let t : found ks n p x ≡ true = rw (lt-ltb p n k, eq-eqb (get_or ks p 0) x e) in
      never (sym f ∙ t)

module _ (ks : List ℕ) (n x p : ℕ) (h : n ≤ length ks) (q : Place ks n x p) where
  -- ---- x stands there already, or is put there
  pub insert_old : found ks n p x ≡ true → inserted ltb x (take n ks) ≡ take n ks
  insert_old f = let t = there ks n x p f in old_in ks n x p h q t.0 t.1

  pub insert_new : n < length ks → found ks n p x ≡ false → take (n + 1) (set (opened ks n p) p x) ≡ inserted ltb x (take n ks)
  insert_new l f =
      let m = q.most in
      let t : List ℕ = take (n - p) (drop p ks) in
      let u : List ℕ = drop (suc n) ks in
      let len : length (take p ks) ≡ p = length-take-le p ks (omega arith) in
      let size-t : length t ≡ n - p = length-take-le (n - p) (drop p ks) (rw (length-drop p ks) (omega arith)) in
      let one : opened ks n p ≡ take p ks ++ (get_or ks p 0 ∷ (t ++ u)) =
      ap (λ (s : List ℕ). s ++ (t ++ u)) (take-suc ks p 0 (omega arith)) ∙ append_snoc (take p ks) (get_or ks p 0) (t ++ u) in
      let two : set (opened ks n p) p x ≡ take p ks ++ (x ∷ (t ++ u)) =
      ap (λ (s : List ℕ). set s p x) one ∙ set_at (take p ks) (get_or ks p 0) (t ++ u) x p len in
      let whole : length (take p ks ++ (x ∷ t)) ≡ n + 1 = length-append (take p ks) (x ∷ t) ∙ rw (len, size-t) (omega arith) in
      ap (take (n + 1)) (two ∙ sym (append_assoc (take p ks) (x ∷ t) u)) ∙ take_at (take p ks ++ (x ∷ t)) u (n + 1) whole
      ∙ sym (new_in ks n x p h q (absent ks n x p f))

  -- ---- what a row says of its symbol is noted at its place, and nowhere else
  module _ (r : Rising (take n ks)) where
    only : (k : ℕ) → k < n → x ≡ get_or ks k 0 → k ≡ p
    only k i e = by (ltb k p) refl (ltb p k) refl
      where
        by : (u : Bool) → ltb k p ≡ u → (v : Bool) → ltb p k ≡ v → k ≡ p
        by true g v o = let s = q.below k (ltb-true k p g) in absurd (omega arith)
        by false g true o =
            let l = ltb-true p k o in
            let s = rises ks n h r p k l i in
            let a = q.above p (omega arith) (omega arith) in
            absurd (omega arith)
        by false g false o =
            let l = ltb-false k p g in
            let m = ltb-false p k o in
            omega arith

    pub note_found : (bits : ℕ) (at : List ℕ) → n ≤ length at → found ks n p x ≡ true → (k : ℕ) → k < n
        → get_or (set at p bits) k 0 ≡ cond (eqb x (get_or ks k 0)) bits (get_or at k 0)
    note_found bits at m f k i = by (eqb k p) refl
      where
        by : (v : Bool) → eqb k p ≡ v → get_or (set at p bits) k 0 ≡ cond (eqb x (get_or ks k 0)) bits (get_or at k 0)
        by true g =
            let t = there ks n x p f in
            rw (eqb-true k p g, eq-eqb x (get_or ks p 0) (sym t.1)) (get_or-set_same at p bits 0 (omega (arith, t.0)))
        by false g =
            let o = eqb-false k p g in
            rw (ne_eqb x (get_or ks k 0) (λ z. o (only k i z))) (get_or-set_other at p k bits 0 o)

    pub note_absent : (bits : ℕ) (at : List ℕ) → found ks n p x ≡ false → (k : ℕ) → k < n
        → get_or at k 0 ≡ cond (eqb x (get_or ks k 0)) bits (get_or at k 0)
    note_absent bits at f k i =
        rw (ne_eqb x (get_or ks k 0) (λ z. let o = only k i z in absent ks n x p f (rw (← o) i) (rw (← o) (sym z))))

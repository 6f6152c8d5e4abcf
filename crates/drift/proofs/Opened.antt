-- One turn of the loop that moves elements up.
-- Assumes nothing.
use Prim.Native.Nat.{ℕ, zero, suc, ◌+◌, ◌-◌, ◌≤◌, ◌<◌}
use mathlib.Core.Path.{◌≡◌, sym, ap, ◌∙◌}
use mathlib.Core.List.{List, [], ◌∷◌, ◌++◌, append-nil}
use native.Mathlib.Nat.{not-suc-le-zero, sub-zero}
use native.Mathlib.Omega.{arith}
use lib.ListN.{length, take, drop, get_or, set, length-drop, take-append-drop, get_or-append}
use Rattle.std.proofs.lemmas.List.{take-take}
use lib.Seq.{length-take-le, drop-length, drop-drop, take-suc, drop-cons, append_snoc, set_at, get_or-take}

-- the elements from j on, excluding the n-th, stand one place up; the j-th still stands in its own place too
abbrev pub opened : List ℕ → ℕ → ℕ → List ℕ
opened l n j = take (suc j) l ++ (take (n - j) (drop j l) ++ drop (suc n) l)

pub open_first : (l : List ℕ) (n : ℕ) → n < length l → l ≡ opened l n n
open_first l n h =
    let e : n - n ≡ 0 = omega arith in
    rw e (sym (take-append-drop (suc n) l))

pub open_step : (l : List ℕ) (n j : ℕ) → 0 < j → j ≤ n → n < length l → set (opened l n j) j (get_or (opened l n j) (j - 1) 0) ≡ opened l n (j - 1)
open_step l n zero p q h = absurd (not-suc-le-zero p)
open_step l n (suc i) p q h =
    let e : suc i - 1 ≡ i = omega arith in
    let k : n - i ≡ suc (n - suc i) = omega arith in
    let r : List ℕ = take (n - suc i) (drop (suc i) l) ++ drop (suc n) l in
    let len : length (take (suc i) l) ≡ suc i = length-take-le (suc i) l (omega arith) in
    let one : opened l n (suc i) ≡ take (suc i) l ++ (get_or l (suc i) 0 ∷ r) =
    ap (λ (t : List ℕ). t ++ r) (take-suc l (suc i) 0 (omega arith)) ∙ append_snoc (take (suc i) l) (get_or l (suc i) 0) r in
    let b : i < length (take (suc i) l) = rw len (omega arith) in
    let v : get_or (opened l n (suc i)) i 0 ≡ get_or l i 0 =
    ap (λ (t : List ℕ). get_or t i 0) one ∙ get_or-append (take (suc i) l) (get_or l (suc i) 0 ∷ r) 0 i b ∙ get_or-take (suc i) l i 0 (omega arith) in
    let d : drop i l ≡ get_or l i 0 ∷ drop (suc i) l = drop-cons l i 0 (omega arith) in
    rw (e, v, one, k, d) (set_at (take (suc i) l) (get_or l (suc i) 0) r (get_or l i 0) (suc i) len)

-- when all but the last have moved
pub open_last : (l : List ℕ) (j : ℕ) → 0 < length l → j ≡ 0 → opened l (length l - 1) j ≡ take 1 l ++ take (length l - 1) l
open_last l j h e =
    let k : suc (length l - 1) ≡ length l = omega arith in
    rw (e, sub-zero, k, drop-length, append-nil)

-- the same, done to the part from p on, up to and including the n-th
pub open_part : (l ys : List ℕ) (p n : ℕ) → p ≤ n → n < length l
    → ys ≡ take 1 (take (n + 1 - p) (drop p l)) ++ take (length (take (n + 1 - p) (drop p l)) - 1) (take (n + 1 - p) (drop p l))
    → take p l ++ (ys ++ drop (n + 1 - p) (drop p l)) ≡ opened l n p
open_part l ys p n h m e =
    let f : n + 1 - p ≡ suc (n - p) = omega arith in
    let g : p + suc (n - p) ≡ suc n = omega arith in
    let after : drop (suc (n - p)) (drop p l) ≡ drop (suc n) l = drop-drop (suc (n - p)) p l ∙ ap (λ (i : ℕ). drop i l) g in
    let s : List ℕ = take (suc (n - p)) (drop p l) in
    let len : length s ≡ suc (n - p) = length-take-le (suc (n - p)) (drop p l) (rw (length-drop p l) (omega arith)) in
    let k : suc (n - p) - 1 ≡ n - p = omega arith in
    let mid : take (n - p) s ≡ take (n - p) (drop p l) = take-take (n - p) (suc (n - p)) (drop p l) (omega arith) in
    let first : take 1 s ≡ get_or l p 0 ∷ [] = ap (λ (t : List ℕ). take 1 (take (suc (n - p)) t)) (drop-cons l p 0 (omega arith)) in
    let done : ys ≡ get_or l p 0 ∷ take (n - p) (drop p l) = rw (f, len, k, first, mid) at e in
    rw (f, after, done) (sym (ap (λ (t : List ℕ). t ++ (take (n - p) (drop p l) ++ drop (suc n) l)) (take-suc l p 0 (omega arith)) ∙ append_snoc (take p l) (get_or l p 0) (take (n - p) (drop p l) ++ drop (suc n) l)))

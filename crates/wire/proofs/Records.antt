-- Tables of records, stated once over the element and its width: written, appended to, replaced in, joined, and read back. About no function.
-- Assumes nothing.
use Prim.Native.Nat.{ℕ, zero, suc, ◌+◌, ◌*◌, ◌-◌, ◌≤◌, ◌<◌}
use mathlib.Core.Path.{◌≡◌, refl, sym, ap, ◌∙◌}
use mathlib.Core.List.{List, [], ◌∷◌, ◌++◌, append_assoc, append-nil}
use native.Mathlib.Nat.{sub-zero, zero-sub, suc-sub-suc, sub-add-eq, zero-add, add-zero, suc-add, add-suc, mul-suc, mul-zero, le_of_suc-le-suc, not-suc-le-zero}
use native.Mathlib.Omega.{arith}
use lib.ListN.{length, drop, get_or, set, replicate, length-append, length-drop, length-set, length-replicate}
use lib.Seq.{sets, sets-eq, take_at, drop_at, drop-append-le, drop-append-add, drop-drop}
use Rattle.wire.specs.Table.{records, encoded, padded}

-- ---- what is written after a list, and over the front of one
sets_suc : (x : ℕ) (l vs : List ℕ) (i : ℕ) → sets (x ∷ l) (suc i) vs ≡ x ∷ sets l i vs
sets_suc x l [] i = refl
sets_suc x l (v ∷ vs) i = sets_suc x (set l i v) vs (suc i)

pub sets_behind : (p l vs : List ℕ) (i : ℕ) → sets (p ++ l) (length p + i) vs ≡ p ++ sets l i vs
sets_behind [] l vs i = rw (zero-add i)
sets_behind (x ∷ p) l vs i =
    rw (suc-add (length p) i) (sets_suc x (p ++ l) vs (length p + i) ∙ ap (λ (r : List ℕ). x ∷ r) (sets_behind p l vs i))

pub sets_over : (p q r : List ℕ) → length q ≡ length p → sets (p ++ r) 0 q ≡ q ++ r
sets_over p q r e =
    let room : 0 + length q ≤ length (p ++ r) = rw (length-append, e) (omega arith) in
    sets-eq q (p ++ r) 0 room ∙ rw (e, zero-add (length p), drop_at p r (length p) refl)

-- two runs of bytes, one after the other
pub sets_append : (l vs us : List ℕ) (i : ℕ) → sets l i (vs ++ us) ≡ sets (sets l i vs) (i + length vs) us
sets_append l [] us i = rw add-zero
sets_append l (v ∷ vs) us i =
    sets_append (set l i v) vs us (suc i) ∙ ap (λ (k : ℕ). sets (sets (set l i v) (suc i) vs) k us) (suc-add i (length vs) ∙ sym (add-suc i (length vs)))

drop_zeros : (k n : ℕ) → drop k (replicate {A = ℕ} n 0) ≡ replicate (n - k) 0
drop_zeros zero n = rw sub-zero
drop_zeros (suc k) zero = rw (zero-sub (suc k))
drop_zeros (suc k) (suc n) = drop_zeros k n ∙ rw (suc-sub-suc n k)

-- ---- a buffer that holds bytes, and zeros after them
pub length_padded : (n : ℕ) (s : List ℕ) → length s ≤ n → length (padded n s) ≡ n
unfolding padded
length_padded n s h = rw (length-append, length-replicate) (omega arith)

-- at first it is all zeros
pub padded_none : (n : ℕ) → padded n [] ≡ replicate n 0
unfolding padded
padded_none n = rw sub-zero

-- bytes written after those that are there
pub padded_behind : (n : ℕ) (s t : List ℕ) → length s + length t ≤ n → sets (padded n s) (length s) t ≡ padded n (s ++ t)
unfolding padded
padded_behind n s t h =
    let z : List ℕ = replicate (n - length s) 0 in
    let room : length s + length t ≤ length (s ++ z) = rw (length-append, length-replicate) (omega arith) in
    sets-eq t (s ++ z) (length s) room
    ∙ rw (take_at s z (length s) refl, drop-append-add s z (length t), drop_zeros, ← sub-add-eq n (length s) (length t), ← length-append s t, append_assoc)

-- ---- records of w bytes each
pub encoded_append : {A : Type 0} (f : A → List ℕ) (xs ys : List A) → encoded f (xs ++ ys) ≡ encoded f xs ++ encoded f ys
unfolding encoded
encoded_append f [] ys = refl
encoded_append f (x ∷ xs) ys = rw (encoded_append f xs ys, append_assoc)

module _ {A : Type 0} (f : A → List ℕ) (w : ℕ) (size : (x : A) → length (f x) ≡ w) where
  pub length_encoded : (xs : List A) → length (encoded f xs) ≡ w * length xs
  unfolding encoded
  length_encoded [] = rw mul-zero
  length_encoded (x ∷ xs) = rw (length-append, size, length_encoded xs, mul-suc) (omega arith)

  -- one record more after those that are there
  pub appended : (n : ℕ) (xs : List A) (x : A) → w * length xs + w ≤ n
      → sets (padded n (encoded f xs)) (w * length xs) (f x) ≡ padded n (encoded f (xs ++ (x ∷ [])))
  unfolding encoded
  appended n xs x h =
      let room : length (encoded f xs) + length (f x) ≤ n = rw (length_encoded xs, size x) h in
      ap (λ (k : ℕ). sets (padded n (encoded f xs)) k (f x)) (sym (length_encoded xs))
      ∙ padded_behind n (encoded f xs) (f x) room
      ∙ ap (padded n) (ap (λ (t : List ℕ). encoded f xs ++ t) (sym (append-nil (f x))) ∙ sym (encoded_append f xs (x ∷ [])))

  replaced_in : (xs : List A) (i : ℕ) (y : A) (z : List ℕ) → i < length xs → sets (encoded f xs ++ z) (w * i) (f y) ≡ encoded f (set xs i y) ++ z
  unfolding encoded
  replaced_in [] i y z h = absurd (not-suc-le-zero h)
  replaced_in (x ∷ xs) zero y z h = rw (append_assoc, append_assoc, mul-zero) (sets_over (f x) (f y) (encoded f xs ++ z) (size y ∙ sym (size x)))
  replaced_in (x ∷ xs) (suc i) y z h =
      let e : w * suc i ≡ length (f x) + w * i = rw (size x, mul-suc) (omega arith) in
      rw (append_assoc, append_assoc, e)
      (sets_behind (f x) (encoded f xs ++ z) (f y) (w * i) ∙ ap (λ (r : List ℕ). f x ++ r) (replaced_in xs i y z (le_of_suc-le-suc h)))

  -- a record written anew in its place
  pub replaced : (n : ℕ) (xs : List A) (i : ℕ) (y : A) → i < length xs
      → sets (padded n (encoded f xs)) (w * i) (f y) ≡ padded n (encoded f (set xs i y))
  unfolding padded
  replaced n xs i y h =
      let e : length (encoded f (set xs i y)) ≡ length (encoded f xs) =
      length_encoded (set xs i y) ∙ ap (λ (k : ℕ). w * k) (length-set xs i y) ∙ sym (length_encoded xs) in
      rw e (replaced_in xs i y (replicate (n - length (encoded f xs)) 0) h)

  -- a record in its place, and the records after it
  pub encoded_from : (xs : List A) (i : ℕ) (x : A) (z : List ℕ) → i < length xs
      → drop (w * i) (encoded f xs ++ z) ≡ f (get_or xs i x) ++ (encoded f (drop (suc i) xs) ++ z)
  unfolding encoded
  encoded_from [] i x z h = absurd (not-suc-le-zero h)
  encoded_from (y ∷ xs) zero x z h = rw (mul-zero, append_assoc)
  encoded_from (y ∷ xs) (suc i) x z h =
      let e : w * suc i ≡ length (f y) + w * i = rw (size y, mul-suc) (omega arith) in
      rw (append_assoc, e, drop-append-add) (encoded_from xs i x z (le_of_suc-le-suc h))

-- ---- what records stand for
-- P of each element
pub data Each {A : Type 0} (P : A → Type 0) : List A → Type 0 where
  none : Each P []
  more : {x : A} {xs : List A} → P x → Each P xs → Each P (x ∷ xs)

-- records that were written are read back, where one record is
module _ {A : Type 0} (f : A → List ℕ) (g : List ℕ → A) (w : ℕ) (size : (x : A) → length (f x) ≡ w) (P : A → Type 0)
    (back : (x : A) (t : List ℕ) → P x → g (f x ++ t) ≡ x) where
  pub read_back : (xs : List A) (t : List ℕ) → Each P xs → records g w (length xs) (encoded f xs ++ t) ≡ xs
  unfolding records encoded
  read_back [] t none = refl
  read_back (x ∷ xs) t (more p ps) =
      rw (append_assoc, back x (encoded f xs ++ t) p, drop_at (f x) (encoded f xs ++ t) w (size x)) (ap (λ (l : List A). x ∷ l) (read_back xs t ps))

-- the records of two tables, where a record's meaning does not look past its w bytes
module _ {A : Type 0} (g : List ℕ → A) (w : ℕ) (near : (s t : List ℕ) → w ≤ length s → g (s ++ t) ≡ g s) where
  pub records_append : (n m : ℕ) (s t : List ℕ) → length s ≡ w * n → records g w (n + m) (s ++ t) ≡ records g w n s ++ records g w m t
  unfolding records
  records_append zero m s t e =
      let z : length s ≡ 0 = e ∙ mul-zero w in
      rw (zero-add m, nothing s z)
    where
      nothing : (s : List ℕ) → length s ≡ 0 → s ≡ []
      nothing [] e = refl
      nothing (b ∷ s) e = let f : suc (length s) ≡ 0 = e in absurd (omega arith)
  records_append (suc n) m s t e =
      let l : length s ≡ w * n + w = e ∙ mul-suc w n in
      let a : w ≤ length s = omega arith in
      let r : length (drop w s) ≡ w * n = length-drop w s ∙ omega arith in
      rw (suc-add n m, near s t a, drop-append-le w s t a, records_append n m (drop w s) t r)

-- how many, and which
pub length_records : {A : Type 0} (g : List ℕ → A) (w n : ℕ) (s : List ℕ) → length (records g w n s) ≡ n
unfolding records
length_records g w zero s = refl
length_records g w (suc n) s = ap suc (length_records g w n (drop w s))

pub record_at : {A : Type 0} (g : List ℕ → A) (w n : ℕ) (s : List ℕ) (i : ℕ) (d : A) → i < n → get_or (records g w n s) i d ≡ g (drop (w * i) s)
unfolding records
record_at g w zero s i d h = absurd (not-suc-le-zero h)
record_at g w (suc n) s zero d h = rw mul-zero
record_at g w (suc n) s (suc i) d h =
    let e : w * suc i ≡ w + w * i = rw mul-suc (omega arith) in
    record_at g w n (drop w s) i d (le_of_suc-le-suc h) ∙ rw (drop-drop (w * i) w s, e)

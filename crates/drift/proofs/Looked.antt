-- Lookups: what was last said of a symbol is what was last said of its key; and the lines that the arrays hold.
-- Assumes nothing.
use Prim.Native.Nat.{ℕ, zero, suc, ◌+◌, ◌*◌, ◌/◌, ◌%◌, ◌≤◌, ◌<◌}
use mathlib.Core.Path.{◌≡◌, refl, sym, ap, ◌∙◌}
use mathlib.Core.Bool.{Bool, true, false, cond}
use mathlib.Core.List.{List, [], ◌∷◌, map}
use native.Mathlib.Nat.{add-zero, mul-le-mul, le_refl}
use native.Mathlib.Omega.{arith}
use lib.Dec.{eqb, ltb}
use borrow.Author.Tests.{ltb-false}
use lib.ListN.{length, drop, get_or}
use Rattle.wire.specs.Le.{le}
use Rattle.wire.specs.Table.{every, records}
use Rattle.wire.specs.Layout.{oversize_if, sound_if}
use Rattle.wire.proofs.Layouts.{never_sound}
use Rattle.wire.proofs.Records.{Each, none, more}
use Rattle.wire.proofs.Written.{Bytes}
use Rattle.symbol.specs.Symbol.{wide_field_ok, same_symbol, before}
use Rattle.symbol.specs.declared.Symbol.{Symbol}
use Rattle.symbol.proofs.Text.{and_left, and_right, bytes_drop}
use Rattle.records.specs.Record.{table_ok}
use Rattle.records.proofs.Walk.{rest, rest_next}
use Rattle.drift.specs.Rows.{row_of, rows_in, valued, rows_layout}
use Rattle.drift.specs.Symbols.{last_of, keys, inserted, sorted_with}
use Rattle.drift.specs.Code.{key, key_of, keys_of, Listed, last_bits, Marked, run}
use Rattle.drift.proofs.Keys.{key_first}
use Rattle.drift.proofs.Sized.{Sized, sized, same_by_key}
use Rattle.std.specs.Prelude.{Ok}
use Rattle.wire.specs.declared.refusal.Refusal.TheVariants as Refusal

-- ---- a row of a list that is all there
pub row_there : (s : List ℕ) (w count i : ℕ) → Listed s w count → i < count → w * i + 24 ≤ length s
row_there s w count i l h =
    let last : w * (i + 1) ≤ w * count = mul-le-mul (le_refl w) (omega arith) in
    omega (arith, l.least, l.there)

-- ---- one row more: it takes its place, and says what it says
module _ (w n : ℕ) (s : List ℕ) (i : ℕ) (h : i < n) where
  pub gathered_step : (x : ℕ) (zs after : List ℕ) → x ≡ key (le 8 (drop (w * i) s)) → after ≡ inserted ltb x zs
      → sorted_with ltb after (keys_of (rest row_of w n s (i + 1))) ≡ sorted_with ltb zs (keys_of (rest row_of w n s i))
  unfolding sorted_with
  gathered_step x zs after e f = rw (f, e, rest_next row_of w n s i h)

  pub noted_step : (ks : List ℕ) (m x bits : ℕ) (at after : List ℕ) → x ≡ key (le 8 (drop (w * i) s)) → bits ≡ le 8 (drop 16 (drop (w * i) s))
      → Marked ks m x bits at after → (k : ℕ) → k < m
      → last_bits (get_or after k 0) (get_or ks k 0) (rest row_of w n s (i + 1)) ≡ last_bits (get_or at k 0) (get_or ks k 0) (rest row_of w n s i)
  unfolding last_bits
  noted_step ks m x bits at after e f t k l = rw (t.each k l, e, f, rest_next row_of w n s i h)

-- ---- the rows of a sound list have symbols whose fields are right
rows_sized : (w n : ℕ) (s : List ℕ) → Bytes s → every wide_field_ok w n s ≡ true → Each (λ (r : Symbol × ℕ). Sized r.0) (records row_of w n s)
unfolding every records
rows_sized w zero s b h = none
rows_sized w (suc n) s b h =
    more (sized s b (and_left (wide_field_ok s) (every wide_field_ok w n (drop w s)) h)) (rows_sized w n (drop w s) (bytes_drop w s b) (and_right (wide_field_ok s) (every wide_field_ok w n (drop w s)) h))

pub sound_rows : (w : ℕ) (d : List ℕ) → Bytes d → rows_layout w d ≡ (Ok tt) → (length d / w ≤ 1024) × Each (λ (r : Symbol × ℕ). Sized r.0) (rows_in w d)
unfolding rows_layout table_ok
sound_rows w d b h = by (ltb 1024 (length d / w)) refl (table_ok wide_field_ok w d) refl h
  where
    by : (u : Bool) → ltb 1024 (length d / w) ≡ u → (v : Bool) → table_ok wide_field_ok w d ≡ v → oversize_if u (sound_if v) ≡ (Ok tt)
        → (length d / w ≤ 1024) × Each (λ (r : Symbol × ℕ). Sized r.0) (rows_in w d)
    by true e v f k = never_sound Refusal.Oversize k
    by false e false f k = never_sound Refusal.Broken k
    by false e true f k =
        (ltb-false 1024 (length d / w) e, rows_sized w (length d / w) d b (and_right (eqb (length d % w) 0) (every wide_field_ok w (length d / w) d) f))

-- ---- keys
pub keys_are : {B : Type 0} (f : ℕ → B) (rs : List (Symbol × ℕ)) → map key_of (keys (valued f rs)) ≡ keys_of rs
unfolding keys valued
keys_are f [] = refl
keys_are f (r ∷ rs) = ap (λ (l : List ℕ). key_of r.0 ∷ l) (keys_are f rs)

pub keys_sized : {B : Type 0} (f : ℕ → B) (rs : List (Symbol × ℕ)) → Each (λ (r : Symbol × ℕ). Sized r.0) rs → Each Sized (keys (valued f rs))
unfolding keys valued
keys_sized f [] none = none
keys_sized f (r ∷ rs) (more p ps) = more p (keys_sized f rs ps)

pub before_key : (y z : Symbol) → before y z ≡ ltb (key_of y) (key_of z)
before_key y z = key_first 8 y.word z.word

-- ---- what was last said
pub last_same : {B : Type 0} (f : ℕ → B) (y : Symbol) → Sized y → (b : ℕ) (rs : List (Symbol × ℕ)) → Each (λ (r : Symbol × ℕ). Sized r.0) rs
    → f (last_bits b (key_of y) rs) ≡ last_of (f b) y (valued f rs)
unfolding last_bits last_of valued
last_same f y z b [] none = refl
last_same {B} f y z b (r ∷ rs) (more p ps) =
    last_same f y z (cond (eqb (key_of r.0) (key_of y)) r.1 b) rs ps
    ∙ ap (λ (a : B). last_of a y (valued f rs)) (by (eqb (key_of r.0) (key_of y)) (same_symbol r.0 y) (same_by_key r.0 y p z))
  where
    by : (u v : Bool) → v ≡ u → f (cond u r.1 b) ≡ cond v (f r.1) (f b)
    by true v e = rw e
    by false v e = rw e

-- ---- a run along a list
pub run_map : {A B : Type 0} (f : ℕ → B) (g : A → B) (d : A) (xs : List A) (k : ℕ) → ((i : ℕ) → i < length xs → f (k + i) ≡ g (get_or xs i d)) → run f k (length xs) ≡ map g xs
unfolding run
run_map f g d [] k h = refl
run_map {B = B} f g d (x ∷ xs) k h =
    let e : f k ≡ g x = ap f (sym (add-zero k)) ∙ h 0 (omega arith) in
    rw e (ap (λ (l : List B). g x ∷ l) (run_map f g d xs (k + 1) (λ i l. let z : k + 1 + i ≡ k + suc i = omega arith in ap f z ∙ h (suc i) (omega arith))))

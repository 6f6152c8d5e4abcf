-- The sort is one: what `symbols_of` gives is strictly in order by `before`, so without repeats, and has the same symbols as the list. About no function.
-- Assumes nothing.
use Prim.Native.Nat.{ℕ, ◌<◌}
use mathlib.Core.Path.{◌≡◌, refl, sym, ap, subst, ◌∙◌}
use mathlib.Core.Bool.{Bool, true, false, cond, ◌||◌}
use mathlib.Core.List.{List, [], ◌∷◌, ◌++◌, map}
use native.Mathlib.Omega.{arith}
use borrow.Author.Tests.{ltb-false, lt-ltb}
use lib.Ieee.{binary64, of_bits}
use lib.Dec.{ltb}
use lib.ListN.{length, get_or, length-map, get_or-map}
use mir.Syntax.{w64}
use mir.Val.{to_z}
use Rattle.wire.proofs.Written.{Bytes}
use Rattle.wire.proofs.Records.{Each, none, more}
use Rattle.symbol.specs.Symbol.{same_symbol, before}
use Rattle.symbol.specs.declared.Symbol.{Symbol}
use Rattle.records.specs.Search.{any_where}
use Rattle.drift.specs.Rows.{rows_in, held_in, targets_in, rows_layout}
use Rattle.drift.specs.Symbols.{keys, inserted, sorted_with, symbols_of}
use Rattle.drift.specs.Code.{key, key_of, symbol_at, Rising}
use Rattle.drift.specs.Code as Code
use Rattle.drift.proofs.Ordered.{rise, rising_sorted, map_sorted, each_inserted, each_append}
use Rattle.drift.proofs.Sized.{Sized, key_back}
use Rattle.drift.proofs.Looked.{sound_rows, keys_sized, before_key}
use Rattle.std.specs.Prelude.{Ok}

-- ---- strictly in order
pub in_order : (ys : List Symbol) (i j : ℕ) (d : Symbol) → i < j → j < length (symbols_of ys) → before (get_or (symbols_of ys) i d) (get_or (symbols_of ys) j d) ≡ true
in_order ys i j d l h =
    let s = symbols_of ys in
    let y = get_or s i d in
    let z = get_or s j d in
    let r : Rising (map key_of s) = subst Rising (sym (map_sorted key_of before ltb before_key [] ys)) (rising_sorted [] (map key_of ys) Code.Rising.none) in
    let k : key_of y < key_of z = rw (get_or-map key_of s i d, get_or-map key_of s j d) at (rise r i j (key_of d) l (rw (length-map s key_of) h)) in
    before_key y z ∙ lt-ltb (key_of y) (key_of z) k

-- ---- the same symbols
or_swap : (a b c : Bool) → (a || (b || c)) ≡ (b || (a || c))
or_swap true true c = refl
or_swap true false c = refl
or_swap false b c = refl

or_same : (a b c : Bool) → a ≡ b → (b || c) ≡ (a || (b || c))
or_same true b c e = rw (← e)
or_same false b c e = refl

or_end : (a : Bool) → (a || false) ≡ a
or_end true = refl
or_end false = refl

or_assoc : (a b c : Bool) → ((a || b) || c) ≡ (a || (b || c))
or_assoc true b c = refl
or_assoc false b c = refl

-- symbols of which neither stands before the other are one
one_symbol : (y z : Symbol) → Sized y → Sized z → before y z ≡ false → before z y ≡ false → y ≡ z
one_symbol y z p q e f =
    let a = ltb-false (key_of y) (key_of z) (sym (before_key y z) ∙ e) in
    let b = ltb-false (key_of z) (key_of y) (sym (before_key z y) ∙ f) in
    let k : key_of y ≡ key_of z = omega arith in
    sym (key_back y p) ∙ ap (λ (x : ℕ). symbol_at (key x)) k ∙ key_back z q

module _ (g : Symbol → Bool) where
  any_inserted : (y : Symbol) (zs : List Symbol) → Sized y → Each Sized zs → any_where g (inserted before y zs) ≡ (g y || any_where g zs)
  unfolding inserted any_where
  any_inserted y [] p none = refl
  any_inserted y (z ∷ zs) p (more q qs) = by (any_inserted y zs p qs) (before y z) refl (before z y) refl
    where
      by : any_where g (inserted before y zs) ≡ (g y || any_where g zs) → (u : Bool) → before y z ≡ u → (v : Bool) → before z y ≡ v
          → any_where g (cond u (y ∷ z ∷ zs) (cond v (z ∷ inserted before y zs) (z ∷ zs))) ≡ (g y || (g z || any_where g zs))
      by d true e v f = refl
      by d false e true f = ap (λ (b : Bool). g z || b) d ∙ or_swap (g z) (g y) (any_where g zs)
      by d false e false f = or_same (g y) (g z) (any_where g zs) (ap g (one_symbol y z p q e f))

  any_sorted : (zs ys : List Symbol) → Each Sized zs → Each Sized ys → any_where g (sorted_with before zs ys) ≡ (any_where g zs || any_where g ys)
  unfolding sorted_with any_where
  any_sorted zs [] q none = sym (or_end (any_where g zs))
  any_sorted zs (y ∷ ys) q (more p ps) =
      any_sorted (inserted before y zs) ys (each_inserted before Sized y zs p q) ps
      ∙ rw (any_inserted y zs p q) (or_assoc (g y) (any_where g zs) (any_where g ys) ∙ or_swap (g y) (any_where g zs) (any_where g ys))

-- a symbol is among the sorted ones where it is in the list; `Sized.sized` says that the symbols of right fields are such
pub same_symbols : (ys : List Symbol) → Each Sized ys → (y : Symbol)
    → any_where (λ (z : Symbol). same_symbol z y) (symbols_of ys) ≡ any_where (λ (z : Symbol). same_symbol z y) ys
unfolding any_where
same_symbols ys ps y = any_sorted (λ (z : Symbol). same_symbol z y) [] ys none ps

-- of sound lists: a symbol has a line where it is held or targeted
pub sound_symbols : (p t : List ℕ) → Bytes p → Bytes t → rows_layout 32 p ≡ (Ok tt) → rows_layout 24 t ≡ (Ok tt) → (y : Symbol)
    → any_where (λ (z : Symbol). same_symbol z y) (symbols_of (keys (held_in p) ++ keys (targets_in t)))
    ≡ any_where (λ (z : Symbol). same_symbol z y) (keys (held_in p) ++ keys (targets_in t))
sound_symbols p t b c h k y =
    same_symbols (keys (held_in p) ++ keys (targets_in t))
    (each_append Sized (keys (held_in p)) (keys (targets_in t)) (keys_sized (to_z w64) (rows_in 32 p) (sound_rows 32 p b h).1)
    (keys_sized (of_bits binary64) (rows_in 24 t) (sound_rows 24 t c k).1))
    y

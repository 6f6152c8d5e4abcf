-- Bit patterns of binary64: which are a NaN's, and which are finite. Assumes nothing.
use Rattle.std.proofs.Common.{◌≡◌, ℕ, zero, suc, ◌+◌, ◌/◌, ◌%◌, ◌<◌, ◌≤◌, Bool, true, false, cond, not, T, eqb, ltb, leb, sym, refl, ap, ◌∙◌, subst, arith, eqb→eq, ltb-false, ltb-true, le-ltb, lt-ltb}
use lib.Dec.{not_T}
use lib.Ieee.{Float, nan, inf, fin, binary64, odd, ne, of_fields, of_bits, nan_bits, is_nan}
use lib.Ieee.Bits.{nan_bits_is, nan_bits_above, cond_no}
use lib.Ieee.Compare.{nan_differs}
use Rattle.float.specs.Bits.{is_finite}

-- ---- NaN
is_nan_lem : (x : Float) → is_nan x ≡ true → x ≡ nan
unfolding is_nan
is_nan_lem nan e = refl
is_nan_lem (inf s) e = cc
is_nan_lem (fin s m x) e = cc

pub pattern_nan : (n : ℕ) → 0x7ff0_0000_0000_0000 < n % 0x8000_0000_0000_0000 → of_bits binary64 n ≡ nan
pattern_nan n h = is_nan_lem (of_bits binary64 n) (sym (nan_bits_is binary64 n) ∙ nan_bits_above binary64 n ∙ lt-ltb _ _ h)

pub pattern_fine : (n : ℕ) → n % 0x8000_0000_0000_0000 ≤ 0x7ff0_0000_0000_0000 → T (not (nan_bits binary64 n))
pattern_fine n h = subst (λ (b : Bool). T (not b)) (sym (nan_bits_above binary64 n ∙ le-ltb _ _ h)) tt

pub same_fine : (x : Float) → ne x x ≡ false → T (not (is_nan x))
unfolding is_nan
same_fine nan e = let z : true ≡ false = sym nan_differs ∙ e in absurd (subst T z tt)
same_fine (inf s) e = tt
same_fine (fin s m x) e = tt

-- ---- the fields of a pattern
pub of_bits_is : (n : ℕ) → of_bits binary64 n ≡ of_fields binary64 (leb 0x8000_0000_0000_0000 n) (n % 0x8000_0000_0000_0000 / 0x10_0000_0000_0000) (n % 0x10_0000_0000_0000)
unfolding of_bits
of_bits_is n = refl

-- an exponent's field of 0, and one from 1 up to but excluding 2047
pub field_zero : (s : Bool) (t : ℕ) → of_fields binary64 s 0 t ≡ odd 53 s t 0 1074
unfolding of_fields
field_zero s t = refl

differ : (x : ℕ) → suc x < 2047 → suc x ≡ 2047 → ⊥
differ x h e = omega arith

pub field_suc : (s : Bool) (t x : ℕ) → suc x < 2047 → of_fields binary64 s (suc x) t ≡ odd 53 s (0x10_0000_0000_0000 + t) x 1074
unfolding of_fields
field_suc s t x h =
    cond_no (eqb (suc x) 2047) (cond (eqb t 0) (inf s) nan) (odd 53 s (0x10_0000_0000_0000 + t) x 1074)
    (not_T (eqb (suc x) 2047) (λ (u : T (eqb (suc x) 2047)). differ x h (eqb→eq (suc x) 2047 u)))

-- ---- finite
odd_finite : (d : ℕ) (s : Bool) (q k l : ℕ) → is_finite (odd d s q k l) ≡ true
unfolding odd
odd_finite d s zero k l = refl
odd_finite d s (suc q) k l = refl

fields_finite : (s : Bool) (t f : ℕ) → f < 2047 → is_finite (of_fields binary64 s f t) ≡ true
fields_finite s t zero h = ap is_finite (field_zero s t) ∙ odd_finite 53 s t 0 1074
fields_finite s t (suc f) h = ap is_finite (field_suc s t f h) ∙ odd_finite 53 s (0x10_0000_0000_0000 + t) f 1074

pub finite_below : (n : ℕ) → n % 0x8000_0000_0000_0000 < 0x7ff0_0000_0000_0000 → is_finite (of_bits binary64 n) ≡ true
finite_below n h =
    ap is_finite (of_bits_is n)
    ∙ fields_finite (leb 0x8000_0000_0000_0000 n) (n % 0x10_0000_0000_0000) (n % 0x8000_0000_0000_0000 / 0x10_0000_0000_0000) (omega arith)

ones_not : (s b : Bool) → is_finite (cond b (inf s) nan) ≡ false
ones_not s true = refl
ones_not s false = refl

pub not_finite_above : (n : ℕ) → 0x7ff0_0000_0000_0000 ≤ n % 0x8000_0000_0000_0000 → is_finite (of_bits binary64 n) ≡ false
unfolding of_fields
not_finite_above n h =
    let s = leb 0x8000_0000_0000_0000 n in
    let t = n % 0x10_0000_0000_0000 in
    let e : n % 0x8000_0000_0000_0000 / 0x10_0000_0000_0000 ≡ 2047 = omega arith in
    ap is_finite (of_bits_is n ∙ ap (λ (x : ℕ). of_fields binary64 s x t) e) ∙ ones_not s (eqb t 0)

-- the test of a pattern, as one equation
pub finite_test : (n : ℕ) → ltb (n % 0x8000_0000_0000_0000) 0x7ff0_0000_0000_0000 ≡ is_finite (of_bits binary64 n)
finite_test n = go (ltb (n % 0x8000_0000_0000_0000) 0x7ff0_0000_0000_0000) refl
  where
    go : (b : Bool) → ltb (n % 0x8000_0000_0000_0000) 0x7ff0_0000_0000_0000 ≡ b → b ≡ is_finite (of_bits binary64 n)
    go true e = sym (finite_below n (ltb-true _ _ e))
    go false e = sym (not_finite_above n (ltb-false _ _ e))

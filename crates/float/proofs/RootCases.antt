-- The square root at a NaN, an infinity, a zero and a negative number, and what the tests of `sqrt` tell apart. Assumes nothing.
use Rattle.std.proofs.Common.{◌≡◌, ℕ, zero, suc, ◌+◌, ◌*◌, ◌/◌, ◌%◌, ◌<◌, ◌≤◌, Bool, true, false, cond, ◌&&◌, ◌||◌, T, eqb, ltb, pos, sym, refl, ap, ◌∙◌, subst, le_of_suc-le-suc, zero-lt-suc, mul-pos, lt_of_not-le, arith, lt-ltb, eq-eqb, eqb-true, le-leb}
use mathlib.Core.Bool.{beq}
use lib.Ieee.{Float, nan, inf, fin, binary64, up, down, odd, lt, eq, of_fields, of_bits}
use lib.Ieee.Fits.{up_pos}
use Rattle.float.specs.Root.{sqrt}
use Rattle.float.proofs.Patterns.{of_bits_is, pattern_nan}

never : {A : Type 0} → true ≡ false → A
never e = absurd (subst T e tt)

abbrev pub nought : Float
nought = fin false 0 (pos 0)

-- ---- a pattern with its sign set is not above zero
odd_under : (d q k l : ℕ) → lt nought (odd d true q k l) ≡ false
unfolding lt odd
odd_under d zero k l = refl
odd_under d (suc q) k l = refl

pick_under : (a b : Bool) (v : Float) → lt nought v ≡ false → lt nought (cond a (cond b (inf true) nan) v) ≡ false
unfolding lt
pick_under true true v h = refl
pick_under true false v h = refl
pick_under false b v h = h

fields_under : (x t : ℕ) → lt nought (of_fields binary64 true x t) ≡ false
unfolding of_fields
fields_under zero t = odd_under 53 t 0 1074
fields_under (suc x) t = pick_under (eqb (suc x) 2047) (eqb t 0) (odd 53 true (0x10_0000_0000_0000 + t) x 1074) (odd_under 53 (0x10_0000_0000_0000 + t) x 1074)

signed_under : (n : ℕ) → 0x8000_0000_0000_0000 ≤ n → lt nought (of_bits binary64 n) ≡ false
signed_under n h =
    ap (lt nought) (of_bits_is n ∙ ap (λ (s : Bool). of_fields binary64 s (n % 0x8000_0000_0000_0000 / 0x10_0000_0000_0000) (n % 0x10_0000_0000_0000)) (le-leb _ _ h))
    ∙ fields_under (n % 0x8000_0000_0000_0000 / 0x10_0000_0000_0000) (n % 0x10_0000_0000_0000)

unsigned : (n : ℕ) → lt nought (of_bits binary64 n) ≡ true → n < 0x8000_0000_0000_0000
unsigned n h = lt_of_not-le (λ (g : 0x8000_0000_0000_0000 ≤ n). never (sym h ∙ signed_under n g))

pub above_none : (n : ℕ) → lt nought (of_bits binary64 n) ≡ true → 0 < n
unfolding of_bits lt
above_none zero h = never (sym h)
above_none (suc n) h = zero-lt-suc n

lt_nan : lt nought nan ≡ false
unfolding lt
lt_nan = refl

top_is : sqrt binary64 (of_bits binary64 0x7ff0_0000_0000_0000) ≡ of_bits binary64 0x7ff0_0000_0000_0000
unfolding sqrt of_bits
top_is = refl

pub top_root : (n : ℕ) → lt nought (of_bits binary64 n) ≡ true → 0x7ff0_0000_0000_0000 ≤ n → of_bits binary64 n ≡ sqrt binary64 (of_bits binary64 n)
top_root n h g =
    let u = unsigned n h in
    let m : n % 0x8000_0000_0000_0000 ≤ 0x7ff0_0000_0000_0000 =
    le_of_suc-le-suc (lt_of_not-le (λ (l : 0x7ff0_0000_0000_0000 < n % 0x8000_0000_0000_0000). never (sym h ∙ ap (lt nought) (pattern_nan n l) ∙ lt_nan))) in
    let e : n ≡ 0x7ff0_0000_0000_0000 = omega arith in
    ap (of_bits binary64) e ∙ sym (ap (λ (k : ℕ). sqrt binary64 (of_bits binary64 k)) e ∙ top_is)

-- ---- by value
and_l : (a b : Bool) → a && b ≡ true → a ≡ true
and_l true b e = refl
and_l false b e = e

not_zero : (m u d : ℕ) → 0 < u → eqb (suc m * u * 1) (0 * 1 * d) ≡ true → ⊥
not_zero m u d U e = let p : 0 < suc m * u = mul-pos (zero-lt-suc m) U in omega (arith, eqb-true (suc m * u * 1) (0 * 1 * d) e)

pub zero_root : (x : Float) → eq x nought ≡ true → x ≡ sqrt binary64 x
unfolding eq sqrt
zero_root nan h = refl
zero_root (inf true) h = never (sym h)
zero_root (inf false) h = never (sym h)
zero_root (fin s zero e) h = refl
zero_root (fin s (suc m) e) h = absurd (not_zero m (up e) (down e) (up_pos e) (and_l _ _ h))

over_zero : (m u d : ℕ) → 0 < u → ltb (0 * 1 * d) (suc m * u * 1) ≡ true
over_zero m u d U = let p : 0 < suc m * u = mul-pos (zero-lt-suc m) U in lt-ltb (0 * 1 * d) (suc m * u * 1) (omega arith)

zero_same : (s : Bool) (u d : ℕ) → eqb (0 * u * 1) (0 * 1 * d) && (beq s false || eqb (0 * u * 1) 0) ≡ true
zero_same s u d = go s (eq-eqb (0 * u * 1) (0 * 1 * d) (omega arith)) (eq-eqb (0 * u * 1) 0 (omega arith))
  where
    go : (s : Bool) {a b : Bool} → a ≡ true → b ≡ true → a && (beq s false || b) ≡ true
    go true p q = simp (p, q)
    go false p q = simp p

pub no_root : (x : Float) → lt nought x ≡ false → eq x nought ≡ false → nan ≡ sqrt binary64 x
unfolding lt eq sqrt
no_root nan h k = refl
no_root (inf true) h k = refl
no_root (inf false) h k = never h
no_root (fin s zero e) h k = never (sym (zero_same s (up e) (down e)) ∙ k)
no_root (fin true (suc m) e) h k = refl
no_root (fin false (suc m) e) h k = never (sym (over_zero m (up e) (down e) (up_pos e)) ∙ h)

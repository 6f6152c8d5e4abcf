-- The steps of the definition after the multiplication, as whole numbers: `in_range (round_away x)` is decided by the sign and the rounded size of x (`of_value`).
-- Assumes nothing.
use mathlib.Core.Path.{◌≡◌, refl, sym, ap, ◌∙◌, subst}
use mathlib.Core.Bool.{Bool, true, false, ◌&&◌, ◌||◌}
use Prim.Native.Nat.{ℕ, zero, suc, ◌+◌, ◌*◌, ◌/◌, ◌%◌, ◌^◌, ◌≤◌, ◌<◌, min}
use native.Mathlib.Nat.{mul-one, mul_assoc, mul-div_cancel, mul-le-mul_left, mul-lt-mul_of_pos_right, le_trans, le_of_eq, lt_of_lt_of_le, div-lt_iff_lt-mul, le_of_suc-le-suc, mul-le-mul_right, zero-mul}
use native.Mathlib.Omega.{arith}
use lib.Dec.{T, leb, ltb, eqb, ltb→lt, lit<, lit≤}
use lib.IntN.{ℤ, pos, negsuc, neg_ℤ, ◌-ℤ◌}
use lib.Pow.{pow-add, pow_pos}
use lib.Ieee.{Float, nan, inf, fin, binary64, up, down, round, fits, le, lt, to_signed}
use lib.Ieee.Fits.{and_l, and_r, down_pos}
use lib.Ieee.Exact.{HasValue, round_exact}
use lib.Ieee.Back.{round_whole}
use borrow.Author.Tests.{ltb-true, ltb-false, leb-true, leb-false, lt-ltb, le-ltb, le-leb, lt-leb, eq-eqb, ne_eqb}
use Rattle.float.specs.Bits.{is_finite}
use Rattle.types.specs.Fixed.{away, value_if, round_away, in_range, lowest, past}
use Rattle.types.proofs.Away.{away_same, away_whole}
use mir.Syntax.{w64}
use mir.Val.{SFits}
use Rattle.std.proofs.lemmas.Int.{ints}
use Rattle.std.specs.Prelude.{Option, Some, None, Ok, Err, Result, SomeIff, OkIff, IsErrAnd, MatchResult}
use Rattle.std.specs.Option.{ok_or}
use Rattle.wire.specs.declared.refusal.Refusal.{Refusal}

-- a sign and a size, in the range from -2 ^ 63 up to but excluding 2 ^ 63
abbrev pub ranged : Bool → ℕ → Result ℤ Refusal
ranged true n = value_if (leb n (2 ^ 63)) (neg_ℤ (pos n))
ranged false n = value_if (ltb n (2 ^ 63)) (pos n)

-- ---- a whole number n that a float has: m * up e is n * down e
or_yes : (a k : ℕ) → a ≤ k → ltb a k || (eqb k a && true) ≡ true
or_yes a k h = go (ltb a k) refl
  where
    go : (b : Bool) → ltb a k ≡ b → b || (eqb k a && true) ≡ true
    go true e = refl
    go false e = let l = ltb-false a k e in simp (eq-eqb k a (omega arith))

or_no : (a k : ℕ) → k < a → ltb a k || (eqb k a && true) ≡ false
or_no a k h = simp (le-ltb a k (omega arith), ne_eqb k a (λ (e : k ≡ a). omega arith))

positive : (a b : ℕ) → 0 < b → ltb 0 (a + b) ≡ true
positive a b h = lt-ltb 0 (a + b) (omega arith)

positive' : (a b : ℕ) → 0 < a → ltb 0 (a + b) ≡ true
positive' a b h = lt-ltb 0 (a + b) (omega arith)

wide : (d : ℕ) → 0 < d → 0 < 9223372036854775808 * d
wide d h = omega arith

module _ (m : ℕ) (e : ℤ) (n : ℕ) (v : m * up e * 1 ≡ n * down e) where
  cut : m * up e / down e ≡ n
  cut = ap (λ (x : ℕ). x / down e) (sym (mul-one (m * up e)) ∙ v) ∙ mul-div_cancel n (down_pos e)

  le_low : n ≤ 9223372036854775808 → le lowest (fin true m e) ≡ true
  unfolding le
  le_low h = or_yes (m * up e * 1) (9223372036854775808 * down e) (subst (λ (x : ℕ). x ≤ 9223372036854775808 * down e) (sym v) (mul-le-mul_right (down e) h))

  not_le_low : 9223372036854775808 < n → le lowest (fin true m e) ≡ false
  unfolding le
  not_le_low h = or_no (m * up e * 1) (9223372036854775808 * down e) (subst (λ (x : ℕ). 9223372036854775808 * down e < x) (sym v) (mul-lt-mul_of_pos_right h (down_pos e)))

  lt_past_neg : lt (fin true m e) past ≡ true
  unfolding lt
  lt_past_neg = positive (m * up e * 1) (9223372036854775808 * down e) (wide (down e) (down_pos e))

  le_low_pos : le lowest (fin false m e) ≡ true
  unfolding le
  le_low_pos = ap (λ (b : Bool). b || (eqb (9223372036854775808 * down e) (m * up e * 1) && (false || eqb (9223372036854775808 * down e) 0))) (positive' (9223372036854775808 * down e) (m * up e * 1) (wide (down e) (down_pos e)))

  lt_past : n < 9223372036854775808 → lt (fin false m e) past ≡ true
  unfolding lt
  lt_past h = lt-ltb (m * up e * 1) (9223372036854775808 * down e) (subst (λ (x : ℕ). x < 9223372036854775808 * down e) (sym v) (mul-lt-mul_of_pos_right h (down_pos e)))

  not_lt_past : 9223372036854775808 ≤ n → lt (fin false m e) past ≡ false
  unfolding lt
  not_lt_past h = le-ltb (m * up e * 1) (9223372036854775808 * down e) (subst (λ (x : ℕ). 9223372036854775808 * down e ≤ x) (sym v) (mul-le-mul_right (down e) h))

  neg_cast : n ≤ 9223372036854775808 → to_signed 63 (fin true m e) ≡ neg_ℤ (pos n)
  unfolding to_signed
  neg_cast h = ap (λ (x : ℕ). neg_ℤ (pos (min x 9223372036854775808))) cut ∙ ap (λ (x : ℕ). neg_ℤ (pos x)) (let r : min n 9223372036854775808 ≡ n = omega arith in r)

  pos_cast : n < 9223372036854775808 → to_signed 63 (fin false m e) ≡ pos n
  unfolding to_signed
  pos_cast h = ap (λ (x : ℕ). pos (min x 9223372036854775807)) cut ∙ ap pos (let r : min n 9223372036854775807 ≡ n = omega arith in r)

  neg_range : in_range (fin true m e) ≡ ranged true n
  unfolding in_range
  neg_range = go (leb n 9223372036854775808) refl
    where
      go : (b : Bool) → leb n 9223372036854775808 ≡ b → in_range (fin true m e) ≡ value_if b (neg_ℤ (pos n))
      go true h = let l = leb-true n 9223372036854775808 h in simp (le_low l, lt_past_neg, neg_cast l)
      go false h = simp (not_le_low (leb-false n 9223372036854775808 h))

  pos_range : in_range (fin false m e) ≡ ranged false n
  unfolding in_range
  pos_range = go (ltb n 9223372036854775808) refl
    where
      go : (b : Bool) → ltb n 9223372036854775808 ≡ b → in_range (fin false m e) ≡ value_if b (pos n)
      go true h = let l = ltb-true n 9223372036854775808 h in simp (le_low_pos, lt_past l, pos_cast l)
      go false h = simp (le_low_pos, not_lt_past (ltb-false n 9223372036854775808 h))

range : (x : Float) (s : Bool) (n : ℕ) → HasValue x s n 1 → in_range x ≡ ranged s n
range nan s n v = absurd v
range (inf t) s n v = absurd v
range (fin true m e) s n v = neg_range m e n v.1 ∙ ap (λ (s : Bool). ranged s n) v.0
range (fin false m e) s n v = pos_range m e n v.1 ∙ ap (λ (s : Bool). ranged s n) v.0

-- ---- the rounded size is a whole number that the format holds
shifted_up : (m k : ℕ) → m * 2 ^ k * 2 ^ 1074 ≡ m * 2 ^ (k + 1074) * 1
shifted_up m k = mul_assoc m (2 ^ k) (2 ^ 1074) ∙ ap (λ (x : ℕ). m * x) (sym (pow-add 2 k 1074)) ∙ sym (mul-one (m * 2 ^ (k + 1074)))

in_units : (m k : ℕ) → m * 2 ^ k < 2 ^ 1024 → m * 2 ^ (k + 1074) < 2 ^ 2098
in_units m k h = subst (λ (x : ℕ). x < 2 ^ 2098) (shifted_up m k ∙ mul-one (m * 2 ^ (k + 1074))) (lt_of_lt_of_le (mul-lt-mul_of_pos_right h (pow_pos 1074)) (lit≤ {m = 2 ^ 1024 * 2 ^ 1074} {n = 2 ^ 2098} tt))

whole_exact : (s : Bool) (m k : ℕ) → m < 2 ^ 53 → m * 2 ^ k < 2 ^ 1024 → HasValue (round binary64 s (m * 2 ^ k) 1) s (m * 2 ^ k) 1
whole_exact s m k a b = round_exact binary64 s (m * 2 ^ k) 1 m (k + 1074) (lit< tt) a (in_units m k b) (shifted_up m k)

away_one : (n : ℕ) → away n 1 ≡ n
away_one n = ap (λ (x : ℕ). away x 1) (sym (mul-one n)) ∙ away_whole n 1 (lit< tt)

small : (m d : ℕ) → 0 < d → m < 2 ^ 53 → away (m * 1) d ≤ 2 ^ 53
small m d D h =
    let a : 2 ^ 53 ≤ 2 ^ 53 * d = le_trans (le_of_eq (sym (mul-one (2 ^ 53)))) (mul-le-mul_left (2 ^ 53) D) in
    le_of_suc-le-suc ((div-lt_iff_lt-mul (pos_two d D)).1 (omega arith))
  where
    pos_two : (d : ℕ) → 0 < d → 0 < 2 * d
    pos_two d h = omega arith

-- what `fits` says
fits_small : (s : Bool) (m : ℕ) (e : ℤ) → T (fits binary64 (fin s m e)) → m < 2 ^ 53
unfolding fits
fits_small s zero e t = lit< tt
fits_small s (suc m) e t =
    let a = eqb (suc m % 2) 1 in
    let b = ltb (suc m) (2 ^ 53) in
    let c = leb (down e) (2 ^ 1074) in
    let d = ltb (suc m * up e) (2 ^ 1024 * down e) in
    ltb→lt (suc m) (2 ^ 53) (and_r a b (and_l (a && b) c (and_l (a && b && c) d t)))

fits_range : (s : Bool) (m k : ℕ) → T (fits binary64 (fin s m (pos k))) → m * 2 ^ k < 2 ^ 1024
unfolding fits
fits_range s zero k t = subst (λ (x : ℕ). x < 2 ^ 1024) (sym (zero-mul (2 ^ k))) (lit< tt)
fits_range s (suc m) k t = subst (λ (x : ℕ). suc m * 2 ^ k < x) (mul-one (2 ^ 1024)) (ltb→lt (suc m * 2 ^ k) (2 ^ 1024 * 1) (and_r (eqb (suc m % 2) 1 && ltb (suc m) (2 ^ 53) && leb 1 (2 ^ 1074)) (ltb (suc m * 2 ^ k) (2 ^ 1024 * 1)) t))

away_exact : (s : Bool) (m : ℕ) (e : ℤ) → T (fits binary64 (fin s m e)) → HasValue (round binary64 s (away (m * up e) (down e)) 1) s (away (m * up e) (down e)) 1
away_exact s m (pos k) t = subst (λ (n : ℕ). HasValue (round binary64 s n 1) s n 1) (sym (away_one (m * 2 ^ k))) (whole_exact s m k (fits_small s m (pos k) t) (fits_range s m k t))
away_exact s m (negsuc k) t = round_whole binary64 s (away (m * 1) (2 ^ suc k)) (small m (2 ^ suc k) (pow_pos (suc k)) (fits_small s m (negsuc k) t))

-- ---- both steps
rounded_fin : (s : Bool) (m : ℕ) (e : ℤ) → T (fits binary64 (fin s m e)) → in_range (round_away binary64 (fin s m e)) ≡ ranged s (away (m * up e) (down e))
unfolding round_away
rounded_fin s m e t = range (round binary64 s (away (m * up e) (down e)) 1) s (away (m * up e) (down e)) (away_exact s m e t)

pub of_value : (x : Float) (s : Bool) (a c : ℕ) → T (fits binary64 x) → 0 < c → HasValue x s a c → in_range (round_away binary64 x) ≡ ranged s (away a c)
of_value nan s a c t C v = absurd v
of_value (inf r) s a c t C v = absurd v
of_value (fin r m e) s a c t C v =
    rounded_fin r m e t
    ∙ ap (λ (r : Bool). ranged r (away (m * up e) (down e))) v.0
    ∙ ap (ranged s) (away_same (m * up e) (down e) a c (down_pos e) C v.1)

pub not_finite : (x : Float) → is_finite x ≡ false → (Err Refusal.OutOfRange) ≡ in_range (round_away binary64 x)
unfolding in_range round_away le lt
not_finite nan h = refl
not_finite (inf true) h = refl
not_finite (inf false) h = refl
not_finite (fin s m e) h = cc

-- ---- the range, at a size m that was cut off at 2 ^ 64 - 1
same_cap : (a m : ℕ) → m ≡ min a 0xffff_ffff_ffff_ffff → m ≤ 0x8000_0000_0000_0000 → a ≡ m
same_cap a m e h = omega arith

over_cap : (a m : ℕ) → m ≡ min a 0xffff_ffff_ffff_ffff → m ≤ a
over_cap a m e = omega arith

yes_neg : (a m : ℕ) → m ≡ min a 0xffff_ffff_ffff_ffff → m ≤ 0x8000_0000_0000_0000 → Ok (neg_ℤ (pos m)) ≡ ranged true a
yes_neg a m e h = sym (ap (ranged true) (same_cap a m e h) ∙ ap (λ (b : Bool). value_if b (neg_ℤ (pos m))) (le-leb m 0x8000_0000_0000_0000 h))

no_neg : (a m : ℕ) → m ≡ min a 0xffff_ffff_ffff_ffff → 0x8000_0000_0000_0000 < m → (Err Refusal.OutOfRange) ≡ ranged true a
no_neg a m e h = let l = over_cap a m e in sym (ap (λ (b : Bool). value_if b (neg_ℤ (pos a))) (lt-leb a 0x8000_0000_0000_0000 (omega arith)))

yes_pos : (a m : ℕ) → m ≡ min a 0xffff_ffff_ffff_ffff → m < 0x8000_0000_0000_0000 → Ok (pos m) ≡ ranged false a
yes_pos a m e h = sym (ap (ranged false) (same_cap a m e (omega arith)) ∙ ap (λ (b : Bool). value_if b (pos m)) (lt-ltb m 0x8000_0000_0000_0000 h))

no_pos : (a m : ℕ) → m ≡ min a 0xffff_ffff_ffff_ffff → 0x8000_0000_0000_0000 ≤ m → (Err Refusal.OutOfRange) ≡ ranged false a
no_pos a m e h = let l = over_cap a m e in sym (ap (λ (b : Bool). value_if b (pos a)) (le-ltb a 0x8000_0000_0000_0000 (omega arith)))

-- ---- the same, as the library tests it
minus : (m : ℕ) → pos 0 -ℤ pos m ≡ neg_ℤ (pos m)
minus m = omega (arith, ints)

fits_neg : (m : ℕ) → SFits w64 (pos 0 -ℤ pos m) → m ≤ 0x8000_0000_0000_0000
fits_neg m f = omega (arith, ints)

neg_fits : (m : ℕ) → m ≤ 0x8000_0000_0000_0000 → SFits w64 (pos 0 -ℤ pos m)
neg_fits m h = omega (arith, ints)

pub checked_neg : (o : Option ℤ) (a m : ℕ) → m ≡ min a 0xffff_ffff_ffff_ffff → SomeIff o (SFits w64 (pos 0 -ℤ pos m)) (pos 0 -ℤ pos m) → ok_or o Refusal.OutOfRange ≡ ranged true a
checked_neg (Some x) a m e s = ap Ok (s.1 ∙ minus m) ∙ yes_neg a m e (fits_neg m s.0)
checked_neg None a m e s = go (leb m 0x8000_0000_0000_0000) refl
  where
    go : (b : Bool) → leb m 0x8000_0000_0000_0000 ≡ b → Err Refusal.OutOfRange ≡ ranged true a
    go true h = absurd (s (neg_fits m (leb-true m 0x8000_0000_0000_0000 h)))
    go false h = no_neg a m e (leb-false m 0x8000_0000_0000_0000 h)

module _ {E : Type 0} {Q : E → Refusal → Type 0} (q : (e : E) (d : Refusal) → Q e d → d ≡ Refusal.OutOfRange) where
  refused_so : (r : Result ℤ Refusal) (e : E) → IsErrAnd r (Q e) → r ≡ Err Refusal.OutOfRange
  refused_so (Ok x) e k = absurd k
  refused_so (Err d) e k = ap Err (q e d k)

  pub checked_pos : (t : Result ℤ E) (r : Result ℤ Refusal) (a m : ℕ) → m ≡ min a 0xffff_ffff_ffff_ffff → OkIff t (SFits w64 (pos m)) (pos m) → MatchResult t (λ x. r ≡ Ok x) (λ e. IsErrAnd r (Q e)) → r ≡ ranged false a
  checked_pos (Ok x) r a m e o k = k ∙ ap Ok o.1 ∙ yes_pos a m e o.0.sfits
  checked_pos (Err d) r a m e o k = refused_so r d k ∙ go (ltb m 0x8000_0000_0000_0000) refl
    where
      go : (b : Bool) → ltb m 0x8000_0000_0000_0000 ≡ b → Err Refusal.OutOfRange ≡ ranged false a
      go true h = absurd (o (record { sfits = ltb-true m 0x8000_0000_0000_0000 h }))
      go false h = no_pos a m e (ltb-false m 0x8000_0000_0000_0000 h)

-- `to_signed 63` outside the range from -2 ^ 63 up to but excluding 2 ^ 63, and at a NaN. Assumes nothing.
use Rattle.std.proofs.Common.{◌≡◌, ℕ, ◌+◌, ◌*◌, ◌/◌, ◌<◌, ◌≤◌, min, Bool, true, false, ◌&&◌, ◌||◌, T, eqb, ltb, pos, negsuc, neg_ℤ, sym, refl, ap, ◌∙◌, subst, le-div_iff_mul-le, mul-one, arith, ltb-false, lt-ltb}
use lib.Ieee.{Float, nan, inf, fin, up, down, lt, le, to_signed}
use lib.Ieee.Fits.{down_pos}
use borrow.Author.Tests.{eqb-false}
use Rattle.float.specs.Bits.{lowest, past}

never : {A : Type 0} → true ≡ false → A
never e = absurd (subst T e tt)

or_false : (a b : Bool) → a || b ≡ false → (a ≡ false) × (b ≡ false)
or_false true b e = never e
or_false false b e = (refl, e)

and_true_false : (a : Bool) → a && true ≡ false → a ≡ false
and_true_false true e = e
and_true_false false e = refl

-- what is negative and not at or above -2 ^ 63 has a size above 2 ^ 63
under : (a b : ℕ) → ltb b a || (eqb a b && true) ≡ false → a < b
under a b e =
    let p = or_false (ltb b a) (eqb a b && true) e in
    let x = ltb-false b a p.0 in
    let y = eqb-false a b (and_true_false (eqb a b) p.1) in
    omega arith

big : (n d k : ℕ) → 0 < d → k * d ≤ n → k ≤ n / d
big n d k p h = (le-div_iff_mul-le p).1 h

top : (q k : ℕ) → k ≤ q → min q k ≡ k
top q k h = omega arith

pos_sum : (a b : ℕ) → 0 < a → 0 < a + b
pos_sum a b h = omega arith

pos_sum' : (a b : ℕ) → 0 < b → 0 < a + b
pos_sum' a b h = omega arith

wide : (d : ℕ) → 0 < d → 0 < 9223372036854775808 * d
wide d h = omega arith

pub over : (x : Float) → le lowest x ≡ true → lt x past ≡ false → pos 9223372036854775807 ≡ to_signed 63 x
unfolding le lt to_signed
over nan p q = never (sym p)
over (inf true) p q = never (sym p)
over (inf false) p q = refl
over (fin true m e) p q = never (sym (lt-ltb 0 _ (pos_sum' (m * up e * 1) (9223372036854775808 * down e) (wide (down e) (down_pos e)))) ∙ q)
over (fin false m e) p q =
    let h = ltb-false (m * up e * 1) (9223372036854775808 * down e) q in
    let k = big (m * up e) (down e) 9223372036854775808 (down_pos e) (subst (λ (n : ℕ). 9223372036854775808 * down e ≤ n) (mul-one (m * up e)) h) in
    ap pos (sym (top (m * up e / down e) 9223372036854775807 (omega arith)))

pub under_lowest : (x : Float) → le lowest x ≡ false → lt x (fin false 0 (pos 0)) ≡ true → negsuc 9223372036854775807 ≡ to_signed 63 x
unfolding le lt to_signed
under_lowest nan p q = never (sym q)
under_lowest (inf true) p q = refl
under_lowest (inf false) p q = never (sym q)
under_lowest (fin false m e) p q = never (sym (lt-ltb 0 _ (pos_sum (9223372036854775808 * down e) (m * up e * 1) (wide (down e) (down_pos e)))) ∙ (or_false _ _ p).0)
under_lowest (fin true m e) p q =
    let h = under (9223372036854775808 * down e) (m * up e * 1) p in
    let one = mul-one (m * up e) in
    let h' : 9223372036854775808 * down e ≤ m * up e = omega arith in
    let k = big (m * up e) (down e) 9223372036854775808 (down_pos e) h' in
    ap (λ (n : ℕ). neg_ℤ (pos n)) (sym (top (m * up e / down e) 9223372036854775808 k))

pub neither : (x : Float) → le lowest x ≡ false → lt x (fin false 0 (pos 0)) ≡ false → pos 0 ≡ to_signed 63 x
unfolding le lt to_signed
neither nan p q = refl
neither (inf true) p q = never q
neither (inf false) p q = never p
neither (fin false m e) p q = never (sym (lt-ltb 0 _ (pos_sum (9223372036854775808 * down e) (m * up e * 1) (wide (down e) (down_pos e)))) ∙ (or_false _ _ p).0)
neither (fin true m e) p q =
    let h = under (9223372036854775808 * down e) (m * up e * 1) p in
    let k = ltb-false 0 (m * up e * 1 + 0 * 1 * down e) q in
    absurd (omega arith)

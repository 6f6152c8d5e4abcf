-- Rounding half away from zero, over whole numbers: `away` sees only the value of its fraction, and at a denominator of 2 ^ 1074 it is what `half_up` returns
-- by each of its ways. Assumes nothing.
use mathlib.Core.Path.{◌≡◌, sym, ap, ◌∙◌, subst}
use Prim.Native.Nat.{ℕ, ◌+◌, ◌-◌, ◌*◌, ◌/◌, ◌%◌, ◌^◌, ◌≤◌, ◌<◌, min}
use native.Mathlib.Nat.{mul_assoc, mul_left_comm, mul-pos, mul-le-mul, one-mul, div-le_self, div-eq_of_lt, le_trans}
use native.Mathlib.Omega.{arith}
use lib.Dec.{lit<}
use lib.Arith.{digits_div}
use lib.Pow.{pow-add, pow_pos, pow_mono, shl_exact}
use lib.Ieee.Nearest.{div_same}
use Rattle.types.specs.Fixed.{away}

-- ---- the same fraction rounds the same
away_cross : (a b c d : ℕ) → a * d ≡ c * b → (2 * a + b) * (2 * d) ≡ (2 * c + d) * (2 * b)
away_cross a b c d e = omega arith

pos_twice : (d : ℕ) → 0 < d → 0 < 2 * d
pos_twice d h = omega arith

pub away_same : (a b c d : ℕ) → 0 < b → 0 < d → a * d ≡ c * b → away a b ≡ away c d
away_same a b c d B D e = div_same (2 * a + b) (2 * b) (2 * c + d) (2 * d) (pos_twice b B) (pos_twice d D) (away_cross a b c d e)

-- ---- a whole number rounds to itself
half_rest : (x q : ℕ) → 2 * (x * q) + q ≡ x * (2 * q) + q
half_rest x q = let h = mul_left_comm x 2 q in omega arith

half_less : (q : ℕ) → 0 < q → q < 2 * q
half_less q h = omega arith

pub away_whole : (x q : ℕ) → 0 < q → away (x * q) q ≡ x
away_whole x q Q = ap (λ (n : ℕ). n / (2 * q)) (half_rest x q) ∙ digits_div x (half_less q Q)

-- ---- below 2 ^ 1074, in parts of 2h
half_cross : (d p h : ℕ) → (2 * (d * p) + p * (h * 2)) * (h * 2) ≡ (d + h) * (2 * (p * (h * 2)))
half_cross d p h = omega arith

pub away_part : (d p h q : ℕ) → 0 < p → 0 < h → p * (h * 2) ≡ q → away (d * p) q ≡ (d + h) / (h * 2)
away_part d p h q P H e =
    subst (λ (q : ℕ). away (d * p) q ≡ (d + h) / (h * 2)) e
    (div_same (2 * (d * p) + p * (h * 2)) (2 * (p * (h * 2))) (d + h) (h * 2) (pos_twice _ (mul-pos P (mul-pos H (lit< tt)))) (mul-pos H (lit< tt)) (half_cross d p h))

-- ---- the three ways of `half_up`, with q for 2 ^ 1074
abbrev q : ℕ
q = 2 ^ 1074

back : (a l : ℕ) → l ≤ a → a - l + l ≡ a
back a l h = omega arith

pub whole_power : (d p : ℕ) → 1074 ≤ p → away (d * 2 ^ p) q ≡ d * 2 ^ (p - 1074)
whole_power d p h =
    ap (λ (n : ℕ). away n q) (ap (λ (k : ℕ). d * 2 ^ k) (sym (back p 1074 h)) ∙ ap (λ (n : ℕ). d * n) (pow-add 2 (p - 1074) 1074) ∙ sym (mul_assoc d (2 ^ (p - 1074)) q))
    ∙ away_whole (d * 2 ^ (p - 1074)) q (pow_pos 1074)

pow_half : (s : ℕ) → 0 < s → 2 ^ (s - 1) * 2 ≡ 2 ^ s
pow_half s h = sym (pow-add 2 (s - 1) 1) ∙ ap (λ (k : ℕ). 2 ^ k) (back s 1 h)

pub part_power : (d p s : ℕ) → 0 < s → p + s ≡ 1074 → away (d * 2 ^ p) q ≡ (d + 2 ^ (s - 1)) / 2 ^ s
part_power d p s S e =
    away_part d (2 ^ p) (2 ^ (s - 1)) q (pow_pos p) (pow_pos (s - 1))
    (ap (λ (n : ℕ). 2 ^ p * n) (pow_half s S) ∙ sym (pow-add 2 p s) ∙ ap (λ (k : ℕ). 2 ^ k) e)
    ∙ ap (λ (n : ℕ). (d + 2 ^ (s - 1)) / n) (pow_half s S)

capped : (x c : ℕ) → c ≤ x → c ≡ min x c
capped x c h = omega arith

uncapped : (x c : ℕ) → x ≤ c → x ≡ min x c
uncapped x c h = omega arith

ge_12 : (p : ℕ) → 1086 ≤ p → 12 ≤ p - 1074
ge_12 p h = omega arith

over_64 : (x : ℕ) → 18446744073709551616 ≤ x → 18446744073709551615 ≤ x
over_64 x h = omega arith

pub huge : (d p : ℕ) → 1086 ≤ p → 2 ^ 52 ≤ d → 0xffff_ffff_ffff_ffff ≡ min (away (d * 2 ^ p) q) 0xffff_ffff_ffff_ffff
huge d p h D =
    let big : 2 ^ 52 * 2 ^ 12 ≤ d * 2 ^ (p - 1074) = mul-le-mul D (pow_mono (ge_12 p h)) in
    capped (away (d * 2 ^ p) q) 0xffff_ffff_ffff_ffff
    (subst (λ (x : ℕ). 0xffff_ffff_ffff_ffff ≤ x) (sym (whole_power d p (omega arith))) (over_64 (d * 2 ^ (p - 1074)) big))

le_64 : (x : ℕ) → x < 18446744073709551616 → x ≤ 18446744073709551615
le_64 x h = omega arith

fit_64 : (p : ℕ) → p < 1086 → 53 + (p - 1074) ≤ 64
fit_64 p h = omega arith

pub whole_shift : (d p : ℕ) → 1074 ≤ p → p < 1086 → d < 2 ^ 53 → (d * 2 ^ (p - 1074)) % 2 ^ 64 ≡ min (away (d * 2 ^ p) q) 0xffff_ffff_ffff_ffff
whole_shift d p h l D =
    let x = d * 2 ^ (p - 1074) in
    let e : x % 2 ^ 64 ≡ x = shl_exact 53 (p - 1074) 64 D (fit_64 p l) in
    let small : x % 2 ^ 64 ≤ 0xffff_ffff_ffff_ffff = omega arith in
    e ∙ uncapped x 0xffff_ffff_ffff_ffff (subst (λ (n : ℕ). n ≤ 0xffff_ffff_ffff_ffff) e small)
    ∙ ap (λ (n : ℕ). min n 0xffff_ffff_ffff_ffff) (sym (whole_power d p h))

-- 1 << (s - 1) of an s up to 64
pub one_shl : (k : ℕ) → k < 64 → (1 * 2 ^ k) % 2 ^ 64 ≡ 2 ^ k
one_shl k h = shl_exact 1 k 64 (lit< tt) (omega arith) ∙ one-mul (2 ^ k)

sum_less : (d h : ℕ) → d < 2 ^ 53 → 2 ^ 62 ≤ h → d + h < h * 2
sum_less d h D H = omega arith

pub none : (d p s : ℕ) → 63 ≤ s → p + s ≡ 1074 → d < 2 ^ 53 → 0 ≡ min (away (d * 2 ^ p) q) 0xffff_ffff_ffff_ffff
none d p s S e D =
    let S' : 0 < s = omega arith in
    let k : 62 ≤ s - 1 = omega arith in
    let z : away (d * 2 ^ p) q ≡ 0 =
    part_power d p s S' e ∙ div-eq_of_lt (subst (λ (n : ℕ). d + 2 ^ (s - 1) < n) (pow_half s S') (sum_less d (2 ^ (s - 1)) D (pow_mono k))) in
    sym (ap (λ (n : ℕ). min n 0xffff_ffff_ffff_ffff) z)

half_fits : (d h : ℕ) → d < 2 ^ 53 → h ≤ 2 ^ 61 → d + h < 2 ^ 64
half_fits d h D H = omega arith

pub half_sum : (d s : ℕ) → 0 < s → s < 63 → d < 2 ^ 53 → d + (1 * 2 ^ (s - 1)) % 2 ^ 64 < 2 ^ 64
half_sum d s P l D =
    let k : s - 1 ≤ 61 = omega arith in
    subst (λ (h : ℕ). d + h < 2 ^ 64) (sym (one_shl (s - 1) (omega arith))) (half_fits d (2 ^ (s - 1)) D (pow_mono k))

div_small : (n m c : ℕ) → n ≤ c → n / m ≤ c
div_small n m c h = le_trans (div-le_self n m) h

pub some : (d p s : ℕ) → 0 < s → s < 63 → p + s ≡ 1074 → d < 2 ^ 53 → (d + (1 * 2 ^ (s - 1)) % 2 ^ 64) / 2 ^ s ≡ min (away (d * 2 ^ p) q) 0xffff_ffff_ffff_ffff
some d p s P l e D =
    let h = 2 ^ (s - 1) in
    let one = one_shl (s - 1) (omega arith) in
    let n : d + h < 2 ^ 64 = subst (λ (h : ℕ). d + h < 2 ^ 64) one (half_sum d s P l D) in
    ap (λ (h : ℕ). (d + h) / 2 ^ s) one
    ∙ uncapped ((d + h) / 2 ^ s) 0xffff_ffff_ffff_ffff (div_small (d + h) (2 ^ s) 0xffff_ffff_ffff_ffff (le_64 (d + h) n))
    ∙ ap (λ (n : ℕ). min n 0xffff_ffff_ffff_ffff) (sym (part_power d p s P e))

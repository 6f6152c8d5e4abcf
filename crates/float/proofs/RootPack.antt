-- The bits of a square root: `packed` says which value k * 2 ^ 52 + q is the pattern of, and `root_at` is what `root_bits` returns. Assumes nothing.
use Rattle.std.proofs.Common.{◌≡◌, ℕ, suc, ◌+◌, ◌-◌, ◌*◌, ◌/◌, ◌%◌, ◌^◌, ◌<◌, ◌≤◌, Bool, true, false, cond, ltb, leb, ◌⊎◌, sym, refl, ap, ◌∙◌, subst, inl, inr, le_trans, le_of_eq, lt_of_lt_of_le, lt_of_le_of_lt, mul-le-mul_right, mod-eq_of_lt, mul-le-mul, eq-or-lt_of_le, mul-le-mul_left, mul-lt-mul_of_pos_right, mul-pos, lt_of_not-le, mul-one, not-le_of_lt, arith, lit<, lit≤, pow_pos, pow_mono, pow-add}
use lib.Count.{count_leading_zeros, leading_top}
use lib.Ieee.{binary64, of_bits, units}
use lib.Ieee.Bits.{of_bits-fits}
use lib.Ieee.Exact.{HasValue, units_val}
use borrow.Author.Tests.{lt-leb}
use Rattle.float.specs.Parts.{Parted}
use Rattle.float.specs.Root.{sqrt}
use Rattle.float.proofs.Decode.{parted_mid}
use Rattle.float.proofs.Unique.{unique, units_fit}
use Rattle.float.proofs.RootLaw.{moved, root_of, root_full, sqrt_value, in_form}

-- ---- the shift
pub record Shift (d z : ℕ) : Type 0 where
  pub most : z ≤ 52
  pub full : 2 ^ 52 ≤ d * 2 ^ z
  pub small : d * 2 ^ z < 2 ^ 53

pub shift_is : (d : ℕ) → 0 < d → d < 2 ^ 53 → (11 ≤ count_leading_zeros 64 d) × (count_leading_zeros 64 d ≤ 63) × Shift d (count_leading_zeros 64 d - 11)
shift_is d D h =
    let t = leading_top 64 d D (lt_of_lt_of_le h (pow_mono {i = 53} {j = 64} (lit≤ tt))) in
    let l = count_leading_zeros 64 d in
    let j = t.0 in
    let e : l + suc j ≡ 64 = t.1 in
    let J : j < 53 = lt_of_not-le (λ (g : 53 ≤ j). not-le_of_lt h (le_trans (pow_mono g) t.2)) in
    let z = l - 11 in
    let a : j + z ≡ 52 = omega arith in
    let b : suc j + z ≡ 53 = omega arith in (
      omega arith,
      omega arith,
      record {
        most = omega arith;
        full = le_trans (le_of_eq (ap (λ (k : ℕ). 2 ^ k) (sym a) ∙ pow-add 2 j z)) (mul-le-mul_right (2 ^ z) t.2);
        small = lt_of_lt_of_le (mul-lt-mul_of_pos_right t.3 (pow_pos z)) (le_of_eq (sym (pow-add 2 (suc j) z) ∙ ap (λ (k : ℕ). 2 ^ k) b));
      },
    )

-- ---- k * 2 ^ 52 + q, for a q from 2 ^ 52 to 2 ^ 53
field_one : (k q : ℕ) → 2 ^ 52 ≤ q → q < 2 ^ 53 → k ≤ 2000
    → (0x10_0000_0000_0000 + (k * 2 ^ 52 + q) % 0x10_0000_0000_0000 ≡ q) × ((k * 2 ^ 52 + q) % 0x8000_0000_0000_0000 / 0x10_0000_0000_0000 - 1 ≡ k)
field_one k q a b c = (omega arith, omega arith)

field_two : (k q : ℕ) → q ≡ 2 ^ 53 → k ≤ 2000
    → (0x10_0000_0000_0000 + (k * 2 ^ 52 + q) % 0x10_0000_0000_0000 ≡ 2 ^ 52) × ((k * 2 ^ 52 + q) % 0x8000_0000_0000_0000 / 0x10_0000_0000_0000 - 1 ≡ k + 1)
field_two k q a c = (omega arith, omega arith)

carry : (x : ℕ) → 2 ^ 52 * (x * 2) ≡ 2 ^ 53 * x
carry x = omega arith

same_size : (k q : ℕ) → 2 ^ 52 ≤ q → q ≤ 2 ^ 53 → k ≤ 2000
    → (0x10_0000_0000_0000 + (k * 2 ^ 52 + q) % 0x10_0000_0000_0000) * 2 ^ ((k * 2 ^ 52 + q) % 0x8000_0000_0000_0000 / 0x10_0000_0000_0000 - 1) ≡ q * 2 ^ k
same_size k q a b c = go (eq-or-lt_of_le b)
  where
    go : (q ≡ 2 ^ 53) ⊎ (q < 2 ^ 53)
        → (0x10_0000_0000_0000 + (k * 2 ^ 52 + q) % 0x10_0000_0000_0000) * 2 ^ ((k * 2 ^ 52 + q) % 0x8000_0000_0000_0000 / 0x10_0000_0000_0000 - 1) ≡ q * 2 ^ k
    go (inl e) =
        let f = field_two k q e c in
        ap (λ (n : ℕ). n * 2 ^ ((k * 2 ^ 52 + q) % 0x8000_0000_0000_0000 / 0x10_0000_0000_0000 - 1)) f.0 ∙ ap (λ (n : ℕ). 2 ^ 52 * 2 ^ n) f.1
        ∙ ap (λ (n : ℕ). 2 ^ 52 * n) (pow-add 2 k 1) ∙ carry (2 ^ k) ∙ ap (λ (n : ℕ). n * 2 ^ k) (sym e)
    go (inr l) =
        let f = field_one k q a l c in
        ap (λ (n : ℕ). n * 2 ^ ((k * 2 ^ 52 + q) % 0x8000_0000_0000_0000 / 0x10_0000_0000_0000 - 1)) f.0 ∙ ap (λ (n : ℕ). q * 2 ^ n) f.1

in_range_lem : (k q : ℕ) → q ≤ 2 ^ 53 → k ≤ 2000 → q * 2 ^ k < 2 ^ 2098
in_range_lem k q b c = lt_of_le_of_lt (mul-le-mul b (pow_mono c)) (lit< {m = 2 ^ 53 * 2 ^ 2000} {n = 2 ^ 2098} tt)

pub packed : (k q : ℕ) → 2 ^ 52 ≤ q → q ≤ 2 ^ 53 → k ≤ 2000 → of_bits binary64 (k * 2 ^ 52 + q) ≡ units binary64 false q k
packed k q a b c =
    let n = k * 2 ^ 52 + q in
    let w : Parted n (0x10_0000_0000_0000 + n % 0x10_0000_0000_0000) (n % 0x8000_0000_0000_0000 / 0x10_0000_0000_0000 - 1) = parted_mid n (omega arith) (λ (e : n % 0x8000_0000_0000_0000 / 0x10_0000_0000_0000 ≡ 0). omega arith) in
    let s : leb 0x8000_0000_0000_0000 n ≡ false = lt-leb 0x8000_0000_0000_0000 n (omega arith) in
    let v : HasValue (of_bits binary64 n) false (q * 2 ^ k) (2 ^ 1074) =
    subst (λ (x : ℕ). HasValue (of_bits binary64 n) false x (2 ^ 1074)) (same_size k q a b c)
    (subst (λ (s : Bool). HasValue (of_bits binary64 n) s ((0x10_0000_0000_0000 + n % 0x10_0000_0000_0000) * 2 ^ (n % 0x8000_0000_0000_0000 / 0x10_0000_0000_0000 - 1)) (2 ^ 1074)) s w.value) in
    let r = in_range_lem k q b c in
    unique binary64 (of_bits binary64 n) (units binary64 false q k) false (q * 2 ^ k) (2 ^ 1074) (pow_pos 1074) (of_bits-fits binary64 n) (units_fit binary64 false q k b r) v (units_val binary64 false q k r)

-- ---- the digits of the root, from the parts of a pattern
moved_in : (b : Bool) (q left : ℕ) → 2 ^ 52 ≤ q → q < 2 ^ 53 → (2 ^ 52 ≤ cond b (suc q) q) × (cond b (suc q) q ≤ 2 ^ 53)
moved_in true q left a b = (omega arith, omega arith)
moved_in false q left a b = (omega arith, omega arith)

wide : (w r : ℕ) → 2 ^ 52 ≤ w → 2 ^ 104 ≤ w * (1 + r) * 2 ^ 52
wide w r h = le_trans (mul-le-mul_right (2 ^ 52) h) (mul-le-mul_right (2 ^ 52) (le_trans (le_of_eq (sym (mul-one w))) (mul-le-mul_left w (omega arith))))

pub root_bits_are : (n d p z e root left : ℕ) → 0 < n → n < 0x7ff0_0000_0000_0000 → Parted n d p → Shift d z → e ≡ p + 1074 - z
    → root * root + left ≡ d * 2 ^ z * (1 + e % 2) * 2 ^ 52 → left ≤ 2 * root → root < 2 ^ 53
    → of_bits binary64 ((e / 2 - 26) * 2 ^ 52 + moved root left) ≡ sqrt binary64 (of_bits binary64 n)
root_bits_are n d p z e root left N h P S E g l hi =
    let k = e / 2 - 26 in
    let m = d * 2 ^ z * (1 + e % 2) * 2 ^ 52 in
    let D : 0 < d = P.some (omega arith) in
    let A : 0 < d * 2 ^ p = mul-pos D (pow_pos p) in
    let s : leb 0x8000_0000_0000_0000 n ≡ false = lt-leb 0x8000_0000_0000_0000 n (omega arith) in
    let v : HasValue (of_bits binary64 n) false (d * 2 ^ p) (2 ^ 1074) = subst (λ (s : Bool). HasValue (of_bits binary64 n) s (d * 2 ^ p) (2 ^ 1074)) s P.value in
    let lo : 2 ^ 52 ≤ root = root_full m root left g l (wide (d * 2 ^ z) (e % 2) S.full) in
    let b = moved_in (ltb root left) root left lo hi in
    packed k (moved root left) b.0 b.1 (omega (arith, P.most, S.most))
    ∙ sym
    (sqrt_value (of_bits binary64 n) (d * 2 ^ p) (2 ^ 1074) A (pow_pos 1074) v
    ∙ root_of m root left k (d * 2 ^ p * (2 ^ 1074 * 2 ^ 1074) / 2 ^ 1074) g l lo hi (in_form d p z e k (omega (arith, S.most)) (omega (arith, S.most))))

-- ---- as the code has it: `d << z` is (d * 2 ^ z) % 2 ^ 64
pub shifted : (x : ℕ) → x < 2 ^ 53 → x % 2 ^ 64 ≡ x
shifted x h = mod-eq_of_lt (omega arith)

twice : (a b : ℕ) → a < 2 ^ 53 → b ≤ 2 → a * b < 2 ^ 54
twice a b h k = lt_of_le_of_lt (mul-le-mul_left a k) (omega arith)

pub shifted_lt : (x e : ℕ) → x < 2 ^ 53 → x % 2 ^ 64 * (1 + e % 2) < 2 ^ 54
shifted_lt x e h = twice (x % 2 ^ 64) (1 + e % 2) (subst (λ (n : ℕ). n < 2 ^ 53) (sym (shifted x h)) h) (omega arith)

pub shifted_le : (x e : ℕ) → 2 ^ 52 ≤ x → x < 2 ^ 53 → 2 ^ 52 ≤ x % 2 ^ 64 * (1 + e % 2)
shifted_le x e k h = rw (shifted x h) (omega (arith, mul-le-mul k one))
  where
    one : 1 ≤ 1 + e % 2
    one = omega arith

pub root_at : (b : Bool) (n d p z root left : ℕ) → 0 < n → n < 0x7ff0_0000_0000_0000 → Parted n d p → (z ≤ 52) × (2 ^ 52 ≤ d * 2 ^ z) × (d * 2 ^ z < 2 ^ 53)
    → (root * root + left ≡ (d * 2 ^ z) % 2 ^ 64 * (1 + (p + 1074 - z) % 2) * 2 ^ 52) × (left ≤ 2 * root) × (root < 2 ^ 53) → ltb root left ≡ b
    → of_bits binary64 (((p + 1074 - z) / 2 - 26) * 2 ^ 52 + cond b (suc root) root) ≡ sqrt binary64 (of_bits binary64 n)
root_at b n d p z root left N h P S g t =
    let e = p + 1074 - z in
    ap (λ (b : Bool). of_bits binary64 ((e / 2 - 26) * 2 ^ 52 + cond b (suc root) root)) (sym t)
    ∙ root_bits_are n d p z e root left N h P (record { most = S.0; full = S.1; small = S.2 }) refl
    (g.0 ∙ ap (λ (x : ℕ). x * (1 + e % 2) * 2 ^ 52) (shifted (d * 2 ^ z) S.2)) g.1 g.2

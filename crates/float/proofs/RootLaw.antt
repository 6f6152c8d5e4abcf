-- The definition of the square root at a number whose whole root is known: `root_of` gives what `nearest_root` keeps from the digits of a root and what is left
-- above their square, and `sqrt_value` and `in_form` bring a float into its form. Assumes nothing.
use Rattle.std.proofs.Common.{◌≡◌, ℕ, zero, suc, ◌+◌, ◌-◌, ◌*◌, ◌/◌, ◌%◌, ◌^◌, ◌<◌, ◌≤◌, Bool, true, false, cond, not, T, ltb, leb, ℤ, sym, refl, ap, ◌∙◌, subst, zero-le, le_trans, le_of_eq, le_refl, lt_of_lt_of_le, lt_of_le_of_lt, mul-le-mul_right, mul_assoc, mul-le-mul, mul-lt-mul_of_pos_right, mul-pos, lt_of_not-le, not-le_of_lt, mul-div_cancel, mul_left_comm, add-one, arith, eqb→eq, leb→le, pow_pos, pow_mono, pow-add, ltb-false, ltb-true, leb-false, leb-true}
use Prim.Native.Nat.{compare, Ordering}
use native.Mathlib.Nat.{div-eq_of_lt-le}
use lib.Dec.{is_le, compare_is_eq, nleb→lt}
use lib.Ieee.{Float, nan, inf, fin, binary64, up, down, size, nearest, units}
use lib.Ieee.Fits.{down_pos}
use lib.Ieee.Exact.{HasValue}
use lib.Ieee.Nearest.{div_same}
use Rattle.float.proofs.Unique.{cross}
use lib.Ieee.Digits.{size-lt, size-le}
use Rattle.float.specs.Root.{isqrt, whole_root, kept, nearest_root, sqrt}

-- ---- the whole root
abbrev pub IsRoot : ℕ → ℕ → Type 0
IsRoot n r = (r * r ≤ n) × (n < (r + 1) * (r + 1))

pick : (b : Bool) (n r : ℕ) → leb ((r + 1) * (r + 1)) n ≡ b → r * r ≤ n → n < (r + 2) * (r + 2) → IsRoot n (cond b (r + 1) r)
pick true n r e lo hi = (leb-true _ _ e, omega arith)
pick false n r e lo hi = (lo, leb-false _ _ e)

low_side : (r n : ℕ) → r * r ≤ n / 4 → 2 * r * (2 * r) ≤ n
low_side r n h = omega arith

high_side : (r n : ℕ) → n / 4 < (r + 1) * (r + 1) → n < (2 * r + 2) * (2 * r + 2)
high_side r n h = omega arith

quarter : (n d : ℕ) → n < 4 ^ suc d → n / 4 < 4 ^ d
quarter n d h = let e : 4 ^ (d + 1) ≡ 4 ^ d * 4 = pow-add 4 d 1 in omega (arith, subst (λ (k : ℕ). n < 4 ^ k) (sym (add-one d)) h)

pub isqrt_is : (d n : ℕ) → n < 4 ^ d → IsRoot n (isqrt d n)
unfolding isqrt
isqrt_is zero n h = (zero-le, h)
isqrt_is (suc d) n h =
    let r = isqrt d (n / 4) in
    let ih = isqrt_is d (n / 4) (quarter n d h) in
    pick (leb ((2 * r + 1) * (2 * r + 1)) n) n (2 * r) refl (low_side r n ih.0) (high_side r n ih.1)

two_four : (k : ℕ) → 2 ^ k ≤ 4 ^ k
two_four zero = le_refl 1
two_four (suc k) =
    let a : 2 ^ (k + 1) ≡ 2 ^ k * 2 = pow-add 2 k 1 in
    let b : 4 ^ (k + 1) ≡ 4 ^ k * 4 = pow-add 4 k 1 in
    let h = two_four k in
    subst (λ (n : ℕ). 2 ^ n ≤ 4 ^ n) (add-one k) (omega arith)

pub whole_is : (n : ℕ) → IsRoot n (whole_root n)
unfolding whole_root
whole_is n = isqrt_is (size n) n (lt_of_lt_of_le (size-lt n) (two_four (size n)))

-- ---- what `compare` says, from an order
above : (a b : ℕ) → b < a → compare a b ≡ Ordering.gt
above a b h = go (compare a b) (leb→le a b) (eqb→eq a b) refl
  where
    go : (o : Ordering) → (T (is_le o) → a ≤ b) → (T (compare_is_eq o) → a ≡ b) → compare a b ≡ o → o ≡ Ordering.gt
    go Ordering.lt l e p = absurd (not-le_of_lt h (l tt))
    go Ordering.eq l e p = absurd (not-le_of_lt h (l tt))
    go Ordering.gt l e p = refl

under : (a b : ℕ) → a < b → compare a b ≡ Ordering.lt
under a b h = go (compare a b) (nleb→lt a b) (eqb→eq a b)
  where
    same : a ≡ b → ⊥
    same e = omega arith

    go : (o : Ordering) → (T (not (is_le o)) → b < a) → (T (compare_is_eq o) → a ≡ b) → o ≡ Ordering.lt
    go Ordering.lt l e = refl
    go Ordering.eq l e = absurd (same (e tt))
    go Ordering.gt l e = absurd (omega (arith, l tt))

-- ---- squares
square_lt : (a b : ℕ) → a * a < b * b → a < b
square_lt a b h = lt_of_not-le (λ (g : b ≤ a). not-le_of_lt h (mul-le-mul g g))

pub swap : (r u : ℕ) → r * u * (r * u) ≡ r * r * (u * u)
swap r u = mul_assoc r u (r * u) ∙ ap (λ (n : ℕ). r * n) (mul_left_comm u r u) ∙ sym (mul_assoc r r (u * u))

-- with m's whole root r, n = m * u * u has a whole root from r * u up to (r + 1) * u
module _ (m r u n w : ℕ) (U : 0 < u) (e : n ≡ m * (u * u)) (R : IsRoot m r) (W : IsRoot n w) where
  root_low : r * u ≤ w
  root_low =
      let a : r * u * (r * u) ≤ n = subst (λ (k : ℕ). r * u * (r * u) ≤ k) (sym e) (le_trans (le_of_eq (swap r u)) (mul-le-mul_right (u * u) R.0)) in
      let b : r * u < w + 1 = square_lt (r * u) (w + 1) (lt_of_le_of_lt a W.1) in
      omega arith

  root_high : w < (r + 1) * u
  root_high =
      let a : n < (r + 1) * u * ((r + 1) * u) =
      subst (λ (k : ℕ). k < (r + 1) * u * ((r + 1) * u)) (sym e) (lt_of_lt_of_le (mul-lt-mul_of_pos_right R.1 (mul-pos U U)) (le_of_eq (sym (swap (r + 1) u)))) in
      square_lt w ((r + 1) * u) (lt_of_le_of_lt W.0 a)

  root_cut : w / u ≡ r
  root_cut = div-eq_of_lt-le u root_low root_high

-- ---- 53 digits, and k more
between : (z k : ℕ) → 52 + k < z → z ≤ 53 + k → z - 53 ≡ k
between z k a b = omega arith

digits_are : (w r k : ℕ) → 2 ^ 52 ≤ r → r < 2 ^ 53 → r * 2 ^ k ≤ w → w < (r + 1) * 2 ^ k → size w - 53 ≡ k
digits_are w r k lo hi a b =
    let x : 2 ^ (52 + k) ≤ w = le_trans (le_of_eq (pow-add 2 52 k)) (le_trans (mul-le-mul_right (2 ^ k) lo) a) in
    let y : w < 2 ^ (53 + k) = lt_of_lt_of_le b (le_trans (mul-le-mul_right (2 ^ k) (subst (λ (n : ℕ). n ≤ 2 ^ 53) (sym (add-one r)) hi)) (le_of_eq (sym (pow-add 2 53 k)))) in
    between (size w) k (lt_of_not-le (λ (g : size w ≤ 52 + k). not-le_of_lt (lt_of_lt_of_le (size-lt w) (pow_mono g)) x)) (size-le w (53 + k) y)

-- ---- the definition, with the digits that are dropped where they are compared, k, and where they are put back, v
at : ℕ → ℕ → ℕ → ℕ → Float
at n q k v = units binary64 false (nearest q (compare (4 * n) ((2 * q + 1) * (2 * q + 1) * (2 ^ k * 2 ^ k)))) v

open_root : (n : ℕ) → nearest_root binary64 n ≡ at n (whole_root n / 2 ^ (size (whole_root n) - 53)) (size (whole_root n) - 53) (size (whole_root n) - 53)
unfolding nearest_root kept at
open_root n = refl

-- q, or one more where more than q is left
abbrev pub moved : ℕ → ℕ → ℕ
moved q left = cond (ltb q left) (suc q) q

module _ (m q left : ℕ) (e : q * q + left ≡ m) where
  more_half : q < left → (2 * q + 1) * (2 * q + 1) < 4 * m
  more_half h = omega arith

  less_half : left ≤ q → 4 * m < (2 * q + 1) * (2 * q + 1)
  less_half h = omega arith

four : (m u : ℕ) → 4 * (m * u) ≡ 4 * m * u
four m u = sym (mul_assoc 4 m u)

direction : (b : Bool) (m q left n u : ℕ) → ltb q left ≡ b → q * q + left ≡ m → 0 < u → n ≡ m * u → nearest q (compare (4 * n) ((2 * q + 1) * (2 * q + 1) * u)) ≡ cond b (suc q) q
direction true m q left n u t e U x =
    ap (nearest q)
    (above (4 * n) ((2 * q + 1) * (2 * q + 1) * u)
    (subst (λ (k : ℕ). (2 * q + 1) * (2 * q + 1) * u < k) (sym (ap (λ (k : ℕ). 4 * k) x ∙ four m u)) (mul-lt-mul_of_pos_right (more_half m q left e (ltb-true q left t)) U)))
direction false m q left n u t e U x =
    ap (nearest q)
    (under (4 * n) ((2 * q + 1) * (2 * q + 1) * u)
    (subst (λ (k : ℕ). k < (2 * q + 1) * (2 * q + 1) * u) (sym (ap (λ (k : ℕ). 4 * k) x ∙ four m u)) (mul-lt-mul_of_pos_right (less_half m q left e (ltb-false q left t)) U)))

-- digits and a rest that is at most twice as large are a whole root
is_root : (m q left : ℕ) → q * q + left ≡ m → left ≤ 2 * q → IsRoot m q
is_root m q left e h = (omega arith, omega arith)

-- the number is m * 4 ^ k, and m's root has 53 digits
pub root_of : (m q left k n : ℕ) → q * q + left ≡ m → left ≤ 2 * q → 2 ^ 52 ≤ q → q < 2 ^ 53 → n ≡ m * (2 ^ k * 2 ^ k) → nearest_root binary64 n ≡ units binary64 false (moved q left) k
unfolding at
root_of m q left k n e l lo hi x =
    let R = is_root m q left e l in
    let w = whole_root n in
    let W = whole_is n in
    let U = pow_pos k in
    let z : size w - 53 ≡ k = digits_are w q k lo hi (root_low m q (2 ^ k) n w U x R W) (root_high m q (2 ^ k) n w U x R W) in
    open_root n
    ∙ ap (λ (k : ℕ). at n (w / 2 ^ k) k k) z
    ∙ ap (λ (q : ℕ). at n q k k) (root_cut m q (2 ^ k) n w U x R W)
    ∙ ap (λ (q : ℕ). units binary64 false q k) (direction (ltb q left) m q left n (2 ^ k * 2 ^ k) refl e (mul-pos U U) x)

pub root_full : (m q left : ℕ) → q * q + left ≡ m → left ≤ 2 * q → 2 ^ 104 ≤ m → 2 ^ 52 ≤ q
root_full m q left e l h =
    let R = is_root m q left e l in
    let a : 2 ^ 52 < q + 1 = square_lt (2 ^ 52) (q + 1) (lt_of_le_of_lt h R.1) in
    omega arith

-- ---- the root of a float, by its value
sqrt_suc : (m : ℕ) (e : ℤ) → sqrt binary64 (fin false (suc m) e) ≡ nearest_root binary64 (suc m * up e * (2 ^ 1074 * 2 ^ 1074) / down e)
unfolding sqrt
sqrt_suc m e = refl

none_left : (u c a d : ℕ) → 0 * u * c ≡ a * d → 0 < a → 0 < d → ⊥
none_left u c a d e A D = let p = mul-pos A D in omega arith

sqrt_fin : (t : Bool) (m : ℕ) (e : ℤ) (a c : ℕ) → t ≡ false → 0 < a → 0 < c → m * up e * c ≡ a * down e → sqrt binary64 (fin t m e) ≡ nearest_root binary64 (a * (2 ^ 1074 * 2 ^ 1074) / c)
sqrt_fin t zero e a c s A C h = absurd (none_left (up e) c a (down e) h A (down_pos e))
sqrt_fin t (suc m) e a c s A C h =
    ap (λ (t : Bool). sqrt binary64 (fin t (suc m) e)) s
    ∙ sqrt_suc m e
    ∙ ap (nearest_root binary64) (div_same (suc m * up e * (2 ^ 1074 * 2 ^ 1074)) (down e) (a * (2 ^ 1074 * 2 ^ 1074)) c (down_pos e) C (cross (suc m * up e) a c (down e) (2 ^ 1074 * 2 ^ 1074) h))

pub sqrt_value : (x : Float) (a c : ℕ) → 0 < a → 0 < c → HasValue x false a c → sqrt binary64 x ≡ nearest_root binary64 (a * (2 ^ 1074 * 2 ^ 1074) / c)
sqrt_value nan a c A C v = absurd v
sqrt_value (inf t) a c A C v = absurd v
sqrt_value (fin t m e) a c A C v = sqrt_fin t m e a c v.0 A C v.1

-- ---- from d * 2 ^ p to the form that `root_of` takes, with l for 1074 and g for 2 ^ 1074
pub cut : (a g : ℕ) → 0 < g → a * (g * g) / g ≡ a * g
cut a g G = ap (λ (n : ℕ). n / g) (sym (mul_assoc a g g)) ∙ mul-div_cancel (a * g) G

-- d * 2 ^ p * 2 ^ l is (d * 2 ^ z) * 2 ^ e where z + e = p + l
shift_in : (d p l z e : ℕ) → z + e ≡ p + l → d * 2 ^ p * 2 ^ l ≡ d * 2 ^ z * 2 ^ e
shift_in d p l z e h =
    mul_assoc d (2 ^ p) (2 ^ l) ∙ ap (λ (n : ℕ). d * n) (sym (pow-add 2 p l) ∙ ap (λ (k : ℕ). 2 ^ k) (sym h) ∙ pow-add 2 z e) ∙ sym (mul_assoc d (2 ^ z) (2 ^ e))

-- w * 2 ^ e is (w * (1 + e % 2)) * 2 ^ 52 * 2 ^ k * 2 ^ k where e / 2 = 26 + k
parity : (r : ℕ) → r < 2 → 1 + r ≡ 2 ^ r
parity zero h = refl
parity (suc zero) h = refl
parity (suc (suc r)) h = absurd (omega arith)

two_parts : (e k : ℕ) → e / 2 ≡ 26 + k → e ≡ e % 2 + (52 + (k + k))
two_parts e k h = omega arith

even_out : (w e k : ℕ) → e / 2 ≡ 26 + k → w * 2 ^ e ≡ w * (1 + e % 2) * 2 ^ 52 * (2 ^ k * 2 ^ k)
even_out w e k h =
    ap (λ (n : ℕ). w * n)
    (ap (λ (n : ℕ). 2 ^ n) (two_parts e k h)
    ∙ pow-add 2 (e % 2) (52 + (k + k))
    ∙ ap (λ (n : ℕ). n * 2 ^ (52 + (k + k))) (sym (parity (e % 2) (omega arith)))
    ∙ ap (λ (n : ℕ). (1 + e % 2) * n) (pow-add 2 52 (k + k) ∙ ap (λ (n : ℕ). 2 ^ 52 * n) (pow-add 2 k k)))
    ∙ sym (mul_assoc w (1 + e % 2) (2 ^ 52 * (2 ^ k * 2 ^ k)))
    ∙ sym (mul_assoc (w * (1 + e % 2)) (2 ^ 52) (2 ^ k * 2 ^ k))

pub in_form : (d p z e k : ℕ) → z + e ≡ p + 1074 → e / 2 ≡ 26 + k → d * 2 ^ p * (2 ^ 1074 * 2 ^ 1074) / 2 ^ 1074 ≡ d * 2 ^ z * (1 + e % 2) * 2 ^ 52 * (2 ^ k * 2 ^ k)
in_form d p z e k h t = cut (d * 2 ^ p) (2 ^ 1074) (pow_pos 1074) ∙ shift_in d p 1074 z e h ∙ even_out (d * 2 ^ z) e k t

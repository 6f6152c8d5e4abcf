-- The definition of the square root is IEEE 754's: no value of the format is nearer to the root than what it keeps (`near`), and the root of a positive finite
-- f64 is that value, which binary64 holds (`sqrt_near`, and by the bits `bits_near`). What it keeps is the root's whole part in steps of 2 ^ k or the next step up, and every value of the
-- format that is larger than the first is at least the second (`next_up`). Assumes nothing.
use Rattle.std.proofs.Common.{◌≡◌, ℕ, zero, suc, ◌+◌, ◌-◌, ◌*◌, ◌/◌, ◌%◌, ◌^◌, ◌<◌, ◌≤◌, false, not, T, eqb, leb, sym, refl, ap, ◌∙◌, subst, le_trans, le_of_eq, lt_of_lt_of_le, le_of_suc-le-suc, lt_of_le_of_lt, le_of_lt, mul-le-mul_right, mul_assoc, div-lt_iff_lt-mul, mul-le-mul, mul-le-mul_left, mul-lt-mul_of_pos_right, mul-pos, lt_of_not-le, le-div_iff_mul-le, not-le_of_lt, div-mul-le_self, add-one, arith, lit<, eqb→eq, leb→le, pow_pos, pow_mono, pow-add}
use Prim.Native.Nat.{compare, Ordering}
use lib.Arith.{lt_of_le-ne}
use lib.Dec.{is_le, compare_is_eq, nleb→lt, eqb_refl}
use borrow.Author.Tests.{lt-leb}
use lib.Ieee.{Float, Format, binary64, prec, size, nearest, units, fits, of_bits}
use lib.Ieee.Digits.{size-lt, size_reaches}
use lib.Ieee.Exact.{HasValue, units_val}
use lib.Ieee.Fits.{two, nearest-le}
use Rattle.float.specs.Root.{whole_root, kept, nearest_root, sqrt}
use Rattle.float.specs.Nearest.{Nearest, Rooted, field_units, units_of}
use Rattle.float.proofs.RootLaw.{whole_is, swap, sqrt_value, cut}
use Rattle.float.proofs.Unique.{units_fit}
use Rattle.float.proofs.Decode.{parted_low, parted_mid}

-- ---- what `compare` says
abbrev Cmp : Ordering → ℕ → ℕ → Type 0
Cmp Ordering.lt a b = a < b
Cmp Ordering.eq a b = a ≡ b
Cmp Ordering.gt a b = b < a

cmp : (a b : ℕ) → Cmp (compare a b) a b
cmp a b = go (compare a b) (leb→le a b) (nleb→lt a b) (eqb→eq a b) (λ (e : a ≡ b). subst (λ (x : ℕ). T (eqb a x)) e (eqb_refl a))
  where
    go : (o : Ordering) → (T (is_le o) → a ≤ b) → (T (not (is_le o)) → b < a) → (T (compare_is_eq o) → a ≡ b) → (a ≡ b → T (compare_is_eq o)) → Cmp o a b
    go Ordering.lt h k e n = lt_of_le-ne (h tt) n
    go Ordering.eq h k e n = e tt
    go Ordering.gt h k e n = k tt

-- ---- the digits: k is what is dropped of w's
module _ (w p k : ℕ) (P : 0 < p) (K : k ≡ size w - p) where
  q_short : w / 2 ^ k < 2 ^ p
  q_short =
      let s : size w ≤ p + k = omega arith in
      (div-lt_iff_lt-mul (pow_pos k)).1 (lt_of_lt_of_le (size-lt w) (le_trans (pow_mono s) (le_of_eq (pow-add 2 p k))))

  q_full : 0 < k → 2 ^ (p - 1) ≤ w / 2 ^ k
  q_full h =
      let s : p - 1 + k < size w = omega arith in
      (le-div_iff_mul-le (pow_pos k)).1 (le_trans (le_of_eq (sym (pow-add 2 (p - 1) k))) (size_reaches w (p - 1 + k) s))

prec_pos : (f : Format) → 0 < prec f
prec_pos f = omega (arith, two f)

-- ---- values of the format
-- 2 ^ a below 2 ^ b has the smaller exponent
pow_less : (a b : ℕ) → 2 ^ a < 2 ^ b → a < b
pow_less a b h = lt_of_not-le (λ (g : b ≤ a). not-le_of_lt h (pow_mono g))

-- a value above q * 2 ^ k is a multiple of 2 ^ k, so q + 1 times it at least
module _ (p q k : ℕ) (P : 0 < p) (full : 0 < k → 2 ^ (p - 1) ≤ q) (d z : ℕ) (s : d < 2 ^ p) (h : q * 2 ^ k < d * 2 ^ z) where
  coarse : 0 < k → k ≤ z
  coarse K =
      let a : 2 ^ (p - 1 + k) ≤ q * 2 ^ k = le_trans (le_of_eq (pow-add 2 (p - 1) k)) (mul-le-mul_right (2 ^ k) (full K)) in
      let b : d * 2 ^ z < 2 ^ (p + z) = lt_of_lt_of_le (mul-lt-mul_of_pos_right s (pow_pos z)) (le_of_eq (sym (pow-add 2 p z))) in
      let e = pow_less (p - 1 + k) (p + z) (lt_of_le_of_lt a (lt_of_lt_of_le h (le_of_lt b))) in
      omega arith

  multiple : d * 2 ^ z ≡ d * 2 ^ (z - k) * 2 ^ k
  multiple =
      let l : k ≤ z = by k coarse in
      let e : z ≡ z - k + k = omega arith in
      ap (λ (x : ℕ). d * 2 ^ x) e ∙ ap (λ (x : ℕ). d * x) (pow-add 2 (z - k) k) ∙ sym (mul_assoc d (2 ^ (z - k)) (2 ^ k))
    where
      by : (j : ℕ) → (0 < j → j ≤ z) → j ≤ z
      by zero c = omega arith
      by (suc j) c = c (omega arith)

  next_up : (q + 1) * 2 ^ k ≤ d * 2 ^ z
  next_up =
      let c = d * 2 ^ (z - k) in
      let g : q < c = lt_of_not-le (λ (g : c ≤ q). not-le_of_lt (subst (λ (x : ℕ). q * 2 ^ k < x) multiple h) (mul-le-mul_right (2 ^ k) g)) in
      let g' : q + 1 ≤ c = omega arith in
      le_trans (mul-le-mul_right (2 ^ k) g') (le_of_eq (sym multiple))

-- the middle of two, squared
middle : (q u : ℕ) → (q * u + (q + 1) * u) * (q * u + (q + 1) * u) ≡ (2 * q + 1) * (2 * q + 1) * (u * u)
middle q u = let e : q * u + (q + 1) * u ≡ (2 * q + 1) * u = omega arith in ap (λ (x : ℕ). x * x) e ∙ swap (2 * q + 1) u

double : (x : ℕ) → (x + x) * (x + x) ≡ 4 * (x * x)
double x = omega arith

-- of q, the whole part of the root in steps of u = 2 ^ k, and the next number up
module _ (p n q k : ℕ) (P : 0 < p) (full : 0 < k → 2 ^ (p - 1) ≤ q) (lo : q * 2 ^ k * (q * 2 ^ k) ≤ n) (hi : n < (q + 1) * 2 ^ k * ((q + 1) * 2 ^ k)) where
  abbrev u : ℕ
  u = 2 ^ k

  abbrev mid : ℕ
  mid = (2 * q + 1) * (2 * q + 1) * (u * u)

  stays : 4 * n ≤ mid → Nearest p n (q * u)
  stays m = record { below = below; above = above }
    where
      below : (d z : ℕ) → d < 2 ^ p → d * 2 ^ z < q * u → (d * 2 ^ z + q * u) * (d * 2 ^ z + q * u) ≤ 4 * n
      below d z s h =
          let l : d * 2 ^ z + q * u ≤ q * u + q * u = omega arith in
          le_trans (mul-le-mul l l) (le_trans (le_of_eq (double (q * u))) (mul-le-mul_left 4 lo))

      above : (d z : ℕ) → d < 2 ^ p → q * u < d * 2 ^ z → 4 * n ≤ (d * 2 ^ z + q * u) * (d * 2 ^ z + q * u)
      above d z s h =
          let g = next_up p q k P full d z s h in
          let l : q * u + (q + 1) * u ≤ d * 2 ^ z + q * u = omega arith in
          le_trans m (le_trans (le_of_eq (sym (middle q u))) (mul-le-mul l l))

  goes : mid ≤ 4 * n → Nearest p n ((q + 1) * u)
  goes m = record { below = below; above = above }
    where
      below : (d z : ℕ) → d < 2 ^ p → d * 2 ^ z < (q + 1) * u → (d * 2 ^ z + (q + 1) * u) * (d * 2 ^ z + (q + 1) * u) ≤ 4 * n
      below d z s h =
          let g : d * 2 ^ z ≤ q * u = le_of_suc-le-suc (lt_of_not-le (λ (g : q * u < d * 2 ^ z). not-le_of_lt h (next_up p q k P full d z s g))) in
          let l : d * 2 ^ z + (q + 1) * u ≤ q * u + (q + 1) * u = omega arith in
          le_trans (mul-le-mul l l) (le_trans (le_of_eq (middle q u)) m)

      above : (d z : ℕ) → d < 2 ^ p → (q + 1) * u < d * 2 ^ z → 4 * n ≤ (d * 2 ^ z + (q + 1) * u) * (d * 2 ^ z + (q + 1) * u)
      above d z s h =
          let l : (q + 1) * u + (q + 1) * u ≤ d * 2 ^ z + (q + 1) * u = omega arith in
          le_trans (mul-le-mul_left 4 (le_of_lt hi)) (le_trans (le_of_eq (sym (double ((q + 1) * u)))) (mul-le-mul l l))

  at_middle : (r : ℕ) → r < 2 → 4 * n ≡ mid → Nearest p n ((q + r) * u)
  at_middle zero h e = let z : q ≡ q + 0 = omega arith in subst (λ (x : ℕ). Nearest p n (x * u)) z (stays (le_of_eq e))
  at_middle (suc zero) h e = goes (le_of_eq (sym e))
  at_middle (suc (suc r)) h e = absurd (omega arith)

  chosen : (o : Ordering) → Cmp o (4 * n) mid → Nearest p n (nearest q o * u)
  chosen Ordering.lt h = stays (omega arith)
  chosen Ordering.eq h = at_middle (q % 2) (omega arith) h
  chosen Ordering.gt h = subst (λ (x : ℕ). Nearest p n (x * u)) (add-one q) (goes (omega arith))

-- of what the definition keeps of n's root, and how many digits it drops
pub near : (f : Format) (n : ℕ) → Nearest (prec f) n (kept n (size (whole_root n) - prec f) * 2 ^ (size (whole_root n) - prec f))
unfolding kept
near f n =
    let w = whole_root n in
    let k = size w - prec f in
    let q = w / 2 ^ k in
    let W = whole_is n in
    let a : q * 2 ^ k ≤ w = div-mul-le_self w (2 ^ k) in
    let b : w < (q + 1) * 2 ^ k = (div-lt_iff_lt-mul (pow_pos k)).0 (omega arith) in
    let b' : w + 1 ≤ (q + 1) * 2 ^ k = omega arith in
    chosen (prec f) n q k (prec_pos f) (q_full w (prec f) k (prec_pos f) refl)
    (le_trans (mul-le-mul a a) W.0)
    (lt_of_lt_of_le W.1 (mul-le-mul b' b'))
    (compare (4 * n) ((2 * q + 1) * (2 * q + 1) * (2 ^ k * 2 ^ k))) (cmp (4 * n) ((2 * q + 1) * (2 * q + 1) * (2 ^ k * 2 ^ k)))

short : (f : Format) (n : ℕ) → kept n (size (whole_root n) - prec f) ≤ 2 ^ prec f
unfolding kept
short f n =
    let k = size (whole_root n) - prec f in
    let q = whole_root n / 2 ^ k in
    le_trans (nearest-le q (compare (4 * n) ((2 * q + 1) * (2 * q + 1) * (2 ^ k * 2 ^ k)))) (q_short (whole_root n) (prec f) k (prec_pos f) refl)

-- ---- the root of a float
nearest_is : (n : ℕ) → nearest_root binary64 n ≡ units binary64 false (kept n (size (whole_root n) - 53)) (size (whole_root n) - 53)
unfolding nearest_root
nearest_is n = refl

-- 0 is a value of the format, so the root is half of r at least
small : (p n r B : ℕ) → 0 < B → Nearest p n r → 4 * n < B * B → r < B
small p n r B b N k =
    lt_of_not-le
    (λ (g : B ≤ r).
    let h : (0 * 2 ^ 0 + r) * (0 * 2 ^ 0 + r) ≤ 4 * n = N.below 0 0 (pow_pos p) (omega arith) in
    let e : 0 * 2 ^ 0 + r ≡ r = omega arith in
    not-le_of_lt k (le_trans (mul-le-mul g g) (subst (λ (x : ℕ). x * x ≤ 4 * n) e h)))

-- x is a of the smallest units; each finite f64 is some number of them, below 2 ^ 2098 (`Parted` of specs/Parts)
pub sqrt_near : (x : Float) (a : ℕ) → 0 < a → a < 2 ^ 2098 → HasValue x false a (2 ^ 1074) → Rooted a (sqrt binary64 x)
sqrt_near x a A h v =
    let n = a * 2 ^ 1074 in
    let k = size (whole_root n) - 53 in
    let q = kept n k in
    let N = near binary64 n in
    let four : 4 * n < 2 ^ 2098 * 2 ^ 2098 =
    lt_of_le_of_lt (mul-le-mul_left 4 (mul-le-mul_right (2 ^ 1074) (le_of_lt h))) (lit< {m = 4 * (2 ^ 2098 * 2 ^ 1074)} {n = 2 ^ 2098 * 2 ^ 2098} tt) in
    let r : q * 2 ^ k < 2 ^ 2098 = small 53 n (q * 2 ^ k) (2 ^ 2098) (pow_pos 2098) N four in
    let e = sym (sqrt_value x a (2 ^ 1074) A (pow_pos 1074) v ∙ ap (nearest_root binary64) (cut a (2 ^ 1074) (pow_pos 1074)) ∙ nearest_is n) in
    record {
      root = q * 2 ^ k;
      value = subst (λ (y : Float). HasValue y false (q * 2 ^ k) (2 ^ 1074)) e (units_val binary64 false q k r);
      held = subst (λ (y : Float). T (fits binary64 y)) e (units_fit binary64 false q k (short binary64 n) r);
      close = N;
    }

-- every positive finite f64, by its bits
pub bits_near : (b : ℕ) → 0 < b → b < 0x7ff0_0000_0000_0000 → Rooted (units_of b) (sqrt binary64 (of_bits binary64 b))
bits_near b B h = by (b / 2 ^ 52) refl
  where
    same : b % 0x8000_0000_0000_0000 ≡ b
    same = omega arith

    positive : leb 0x8000_0000_0000_0000 b ≡ false
    positive = lt-leb 0x8000_0000_0000_0000 b (omega arith)

    by : (e : ℕ) → b / 2 ^ 52 ≡ e → Rooted (field_units e (b % 2 ^ 52)) (sqrt binary64 (of_bits binary64 b))
    by zero q =
        let t = b % 2 ^ 52 in
        let s : t < 2 ^ 52 = omega arith in
        let v : HasValue (of_bits binary64 b) false (t * 2 ^ 0) (2 ^ 1074) = rw positive at (parted_low b (rw same q)).value in
        let one : t * 2 ^ 0 ≡ t = omega arith in
        sqrt_near (of_bits binary64 b) t (omega arith) (lt_of_lt_of_le s (pow_mono {i = 52} {j = 2098} (omega arith)))
        (subst (λ (a : ℕ). HasValue (of_bits binary64 b) false a (2 ^ 1074)) one v)
    by (suc e) q =
        let t = b % 2 ^ 52 in
        let s : 2 ^ 52 + t < 2 ^ 53 = omega arith in
        let few : e ≤ 2045 = omega arith in
        let at : b % 0x8000_0000_0000_0000 / 2 ^ 52 ≡ suc e = rw same q in
        let v : HasValue (of_bits binary64 b) false ((2 ^ 52 + t) * 2 ^ (b % 0x8000_0000_0000_0000 / 2 ^ 52 - 1)) (2 ^ 1074) =
        rw positive at (parted_mid b (omega arith) (λ (z : b % 0x8000_0000_0000_0000 / 2 ^ 52 ≡ 0). omega arith)).value in
        let less : b % 0x8000_0000_0000_0000 / 2 ^ 52 - 1 ≡ e = omega arith in
        let k : 53 + e ≤ 2098 = omega arith in
        sqrt_near (of_bits binary64 b) ((2 ^ 52 + t) * 2 ^ e) (mul-pos (omega arith) (pow_pos e))
        (lt_of_lt_of_le (mul-lt-mul_of_pos_right s (pow_pos e)) (le_trans (le_of_eq (sym (pow-add 2 53 e))) (pow_mono k)))
        (subst (λ (e : ℕ). HasValue (of_bits binary64 b) false ((2 ^ 52 + t) * 2 ^ e) (2 ^ 1074)) less v)

-- The digits of a square root, one for each two of the number's: what `next_digit` makes, and the invariant of the loop of `first_digits`, its step and its end;
-- and what `wide_digit` makes, a digit in a larger base. Assumes nothing.
use Rattle.std.proofs.Common.{◌≡◌, ℕ, zero, suc, ◌+◌, ◌-◌, ◌*◌, ◌/◌, ◌%◌, ◌^◌, ◌<◌, ◌≤◌, Bool, true, false, leb, sym, refl, ap, ◌∙◌, subst, not-suc-le-zero, mul-le-mul_right, mul_assoc, mul-le-mul, arith, pow_mono, pow-add, leb-false, leb-true}
use mir.Val.{bool_byte}

-- ---- one more digit, d: it is 1 where the trial, which a digit of 1 takes away, is not above what is left
pub record Next (root left pair d : ℕ) : Type 0 where
  pub one : d ≤ 1
  pub taken : d * (4 * root + 1) ≤ 4 * left + pair
  pub all : (2 * root + d) * (2 * root + d) + (4 * left + pair - d * (4 * root + 1)) ≡ 4 * (root * root + left) + pair
  pub most : 4 * left + pair - d * (4 * root + 1) ≤ 2 * (2 * root + d)

pub next : (root left pair : ℕ) → left ≤ 2 * root → pair < 4 → Next root left pair (bool_byte (leb (4 * root + 1) (4 * left + pair)))
next root left pair h k = go (leb (4 * root + 1) (4 * left + pair)) refl
  where
    go : (b : Bool) → leb (4 * root + 1) (4 * left + pair) ≡ b → Next root left pair (bool_byte b)
    go true e =
        let l = leb-true (4 * root + 1) (4 * left + pair) e in
        record { one = omega arith; taken = omega arith; all = omega arith; most = omega arith }
    go false e =
        let l = leb-false (4 * root + 1) (4 * left + pair) e in
        record { one = omega arith; taken = omega arith; all = omega arith; most = omega arith }

-- ---- the loop
-- after i digits of the root of d, which has 28 digits: the number so far is root * root + left, and rest is what is to come, from 2 ^ 28 down
pub record Reached (d root left rest i : ℕ) : Type 0 where
  pub all : (root * root + left) * 0x1000_0000 + rest ≡ d * 4 ^ i
  pub most : left ≤ 2 * root
  pub room : rest < 0x1000_0000
  pub short : root < 2 ^ i

pub root_small : (r i : ℕ) → r < 2 ^ i → i < 14 → r < 2 ^ 53
root_small r i h l = let m : 2 ^ i ≤ 2 ^ 14 = pow_mono {i = i} {j = 14} (omega arith) in omega arith

module _ (d root left rest i : ℕ) (w : Reached d root left rest i) where
  pub step : (r l : ℕ) → r * r + l ≡ 4 * (root * root + left) + rest / 0x400_0000 → l ≤ 2 * r → r ≤ 2 * root + 1 → Reached d r l (rest % 0x400_0000 * 4) (i + 1)
  step r l e h k =
      let four : d * 4 ^ (i + 1) ≡ d * 4 ^ i * 4 = ap (λ (n : ℕ). d * n) (pow-add 4 i 1) ∙ sym (mul_assoc d (4 ^ i) 4) in
      let two : 2 ^ (i + 1) ≡ 2 ^ i * 2 = pow-add 2 i 1 in
      record {
        all = more (root * root + left) (r * r + l) (d * 4 ^ i) (d * 4 ^ (i + 1)) e four w.all;
        most = h;
        room = omega (arith, w.room);
        short = omega (arith, w.short);
      }
    where
      more : (a b x y : ℕ) → b ≡ 4 * a + rest / 0x400_0000 → y ≡ x * 4 → a * 0x1000_0000 + rest ≡ x → b * 0x1000_0000 + rest % 0x400_0000 * 4 ≡ y
      more a b x y p q t = omega arith

whole : (a rest y : ℕ) → rest < 0x1000_0000 → a * 0x1000_0000 + rest ≡ y * 0x1000_0000 → a ≡ y
whole a rest y h e = omega arith

pub ended : (d root left rest i : ℕ) → Reached d root left rest i → i ≡ 14 → root * root + left ≡ d
ended d root left rest i w e = whole (root * root + left) rest d w.room (w.all ∙ ap (λ (n : ℕ). d * 4 ^ n) e)

-- ---- a number of 27 or 28 digits has a root of 14
pub root_long : (d root left : ℕ) → root * root + left ≡ d → left ≤ 2 * root → 2 ^ 26 ≤ d → 2 ^ 13 ≤ root
root_long d root left e h k = go (leb 0x2000 root) refl
  where
    go : (b : Bool) → leb 0x2000 root ≡ b → 2 ^ 13 ≤ root
    go true t = leb-true 0x2000 root t
    go false t =
        let l : root ≤ 0x1fff = omega (arith, leb-false 0x2000 root t) in
        absurd (omega (arith, mul-le-mul l l))

-- a digit whose square is above a number is not 0
pub digit_some : (q : ℕ) {n : ℕ} → n < q * q → 0 < q
digit_some zero h = absurd (not-suc-le-zero h)
digit_some (suc q) h = omega arith

-- ---- one more digit in base b: q, or one less, where a division leaves u
module _ (root left b hi lo q u : ℕ) (H : left ≤ 2 * root) (B : b ≤ 2 * root) (I : hi < b) (L : lo < b) (D : left * b + hi ≡ q * (2 * root) + u) (U : u < 2 * root) where
  pub record Wide (r l : ℕ) : Type 0 where
    pub all : r * r + l ≡ (root * root + left) * (b * b) + (hi * b + lo)
    pub most : l ≤ 2 * r
    pub least : root * b ≤ r
    pub short : r < root * b + b

  -- all of it times b
  times : (left * b + hi) * b ≡ (q * (2 * root) + u) * b
  times = ap (λ (n : ℕ). n * b) D

  left_times : left * b ≤ 2 * root * b
  left_times = mul-le-mul_right b H

  rest_times : u * b + b ≤ 2 * root * b
  rest_times = let m : suc u * b ≤ 2 * root * b = mul-le-mul_right b U in omega arith

  square : b * b ≤ 2 * root * b
  square = mul-le-mul_right b B

  digit_most : q ≤ b
  digit_most = go (leb q b) refl
    where
      go : (v : Bool) → leb q b ≡ v → q ≤ b
      go true t = leb-true q b t
      go false t =
          let l : suc b ≤ q = leb-false q b t in
          absurd (omega (arith, mul-le-mul_right (2 * root) l, left_times, D))

  digit_square : q * q ≤ b * b
  digit_square = mul-le-mul digit_most digit_most

  -- the sizes of all that the code makes
  pub record Sizes : Type 0 where
    pub product : root * b ≤ 2 ^ 53
    pub number : left * b ≤ 2 ^ 54
    pub rest : u * b + b ≤ 2 ^ 54
    pub digit : q ≤ 2 ^ 26
    pub squared : q * q ≤ 2 ^ 52
    pub taken : q * q ≤ 2 * (root * b)

  pub sizes : root < 2 ^ 27 → b ≤ 2 ^ 26 → Sizes
  sizes h k =
      let r : root ≤ 2 ^ 27 = omega arith in
      let p : root * b ≤ 2 ^ 27 * 2 ^ 26 = mul-le-mul r k in
      record {
        product = omega arith;
        number = omega (arith, left_times);
        rest = omega (arith, rest_times);
        digit = omega (arith, digit_most);
        squared = omega (arith, digit_square, mul-le-mul k k);
        taken = omega (arith, digit_square, square);
      }

  pub kept : q * q ≤ u * b + lo → Wide (root * b + q) (u * b + lo - q * q)
  kept h =
      record {
        all = omega (arith, times);
        most = omega (arith, rest_times);
        least = omega arith;
        short = less (leb b q) refl;
      }
    where
      less : (v : Bool) → leb b q ≡ v → root * b + q < root * b + b
      less true t =
          let e : q ≡ b = omega (arith, digit_most, leb-true b q t) in
          let s : b * b ≤ u * b + lo = subst (λ (n : ℕ). n * n ≤ u * b + lo) e h in
          let d : left * b + hi ≡ b * (2 * root) + u = subst (λ (n : ℕ). left * b + hi ≡ n * (2 * root) + u) e D in
          let m : u ≤ hi = omega (arith, left_times) in
          let p : u * b ≤ hi * b = mul-le-mul_right b m in
          let o : suc hi * b ≤ b * b = mul-le-mul_right b I in
          absurd (omega arith)
      less false t = omega (arith, leb-false b q t)

  pub lowered : u * b + lo < q * q → Wide (root * b + q - 1) (u * b + lo + (2 * (root * b + q) - 1) - q * q)
  lowered h = by q refl h
    where
      by : (n : ℕ) → q ≡ n → u * b + lo < n * n → Wide (root * b + n - 1) (u * b + lo + (2 * (root * b + n) - 1) - n * n)
      by zero e k = absurd (not-suc-le-zero k)
      by (suc p) e k =
          let t : (left * b + hi) * b ≡ (suc p * (2 * root) + u) * b = subst (λ (n : ℕ). (left * b + hi) * b ≡ (n * (2 * root) + u) * b) e times in
          let s : suc p * suc p ≤ b * b = subst (λ (n : ℕ). n * n ≤ b * b) e digit_square in
          let m : suc p ≤ b = subst (λ (n : ℕ). n ≤ b) e digit_most in
          let one : root * b + suc p - 1 ≡ root * b + p = omega arith in
          let two : u * b + lo + (2 * (root * b + suc p) - 1) - suc p * suc p ≡ u * b + lo + 2 * (root * b) - p * p = omega (arith, square) in
          rw (one, two)
          record {
            all = omega (arith, square);
            most = omega arith;
            least = omega arith;
            short = omega arith;
          }

-- Two values that a format holds are the same value where they are the same number, since they have the same bits. Assumes nothing.
use Rattle.std.proofs.Common.{◌≡◌, ℕ, suc, ◌+◌, ◌-◌, ◌*◌, ◌/◌, ◌^◌, ◌<◌, ◌≤◌, Bool, true, false, cond, T, ltb, ℤ, sym, refl, ap, ◌∙◌, le_refl, lt_of_le_of_lt, mul_right_comm, lt→ltb}
use lib.Pow.{pow-lt}
use lib.Ieee.{Float, nan, inf, fin, Format, prec, emax, low, hid, top, up, down, size, odd, units, fits, of_bits, to_bits}
use lib.Ieee.Bits.{of_bits-to_bits}
use lib.Ieee.Fits.{down_pos, odd-fits}
use lib.Ieee.Exact.{HasValue}
use lib.Ieee.Nearest.{div_same}

-- the bits of a sign and a size, in units of the smallest value
abbrev bits : Format → Bool → ℕ → ℕ
bits f s n = cond s (top f) 0 + (size n - prec f) * hid f + n / 2 ^ (size n - prec f)

is_bits : (f : Format) (s : Bool) (m : ℕ) (e : ℤ) → to_bits f (fin s m e) ≡ bits f s (m * up e * 2 ^ low f / down e)
unfolding to_bits
is_bits f s m e = refl

pub cross : (x a c d l : ℕ) → x * c ≡ a * d → x * l * c ≡ a * l * d
cross x a c d l h = mul_right_comm x l c ∙ ap (λ (n : ℕ). n * l) h ∙ mul_right_comm a d l

value_bits : (f : Format) (x : Float) (s : Bool) (a c : ℕ) → 0 < c → HasValue x s a c → to_bits f x ≡ bits f s (a * 2 ^ low f / c)
value_bits f nan s a c C v = absurd v
value_bits f (inf t) s a c C v = absurd v
value_bits f (fin t m e) s a c C v =
    is_bits f t m e
    ∙ ap (λ (t : Bool). bits f t (m * up e * 2 ^ low f / down e)) v.0
    ∙ ap (bits f s) (div_same (m * up e * 2 ^ low f) (down e) (a * 2 ^ low f) c (down_pos e) C (cross (m * up e) a c (down e) (2 ^ low f) v.1))

pub unique : (f : Format) (x y : Float) (s : Bool) (a c : ℕ) → 0 < c → T (fits f x) → T (fits f y) → HasValue x s a c → HasValue y s a c → x ≡ y
unique f x y s a c C X Y v w =
    sym (of_bits-to_bits f x X) ∙ ap (of_bits f) (value_bits f x s a c C v ∙ sym (value_bits f y s a c C w)) ∙ of_bits-to_bits f y Y

pub units_fit : (f : Format) (s : Bool) (q k : ℕ) → q ≤ 2 ^ prec f → q * 2 ^ k < 2 ^ (low f + suc (emax f)) → T (fits f (units f s q k))
unfolding units
units_fit f s q k a h = go (ltb (q * 2 ^ k) (2 ^ (low f + suc (emax f)))) (lt→ltb _ _ h)
  where
    go : (b : Bool) → T b → T (fits f (cond b (odd (suc (prec f)) s q k (low f)) (inf s)))
    go true t = odd-fits f (suc (prec f)) s q k (lt_of_le_of_lt a (pow-lt (le_refl (suc (prec f))))) a h
    go false t = absurd t

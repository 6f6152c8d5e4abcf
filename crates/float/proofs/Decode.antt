-- The value of a finite pattern, by its fields: what carries `parts_of`. Assumes nothing.
use Rattle.std.proofs.Common.{◌≡◌, ℕ, suc, ◌+◌, ◌-◌, ◌*◌, ◌/◌, ◌%◌, ◌^◌, ◌<◌, leb, sym, ap, ◌∙◌, subst, arith}
use lib.Ieee.{Float, binary64, odd, of_fields, of_bits}
use lib.Ieee.Exact.{HasValue, odd_sign}
use Rattle.float.specs.Parts.{Parted}
use Rattle.float.proofs.Patterns.{of_bits_is, field_zero, field_suc}

-- an exponent's field of 0
pub parted_low : (n : ℕ) → n % 0x8000_0000_0000_0000 / 0x10_0000_0000_0000 ≡ 0 → Parted n (n % 0x10_0000_0000_0000) 0
parted_low n e =
    let s = leb 0x8000_0000_0000_0000 n in
    let t = n % 0x10_0000_0000_0000 in
    let v : of_bits binary64 n ≡ odd 53 s t 0 1074 = of_bits_is n ∙ ap (λ (x : ℕ). of_fields binary64 s x t) e ∙ field_zero s t in
    record {
      value = subst (λ (x : Float). HasValue x s (t * 2 ^ 0) (2 ^ 1074)) (sym v) (odd_sign 53 s t 0 1074);
      small = omega arith;
      full = λ h. absurd (omega arith);
      most = omega arith;
      some = λ h. omega arith;
    }

-- and one above it
pub parted_mid : (n : ℕ) → n % 0x8000_0000_0000_0000 < 0x7ff0_0000_0000_0000 → (n % 0x8000_0000_0000_0000 / 0x10_0000_0000_0000 ≡ 0 → ⊥)
    → Parted n (0x10_0000_0000_0000 + n % 0x10_0000_0000_0000) (n % 0x8000_0000_0000_0000 / 0x10_0000_0000_0000 - 1)
parted_mid n h ne =
    let s = leb 0x8000_0000_0000_0000 n in
    let t = n % 0x10_0000_0000_0000 in
    let f = n % 0x8000_0000_0000_0000 / 0x10_0000_0000_0000 in
    let e : f ≡ suc (f - 1) = omega arith in
    let l : suc (f - 1) < 2047 = omega arith in
    let v : of_bits binary64 n ≡ odd 53 s (0x10_0000_0000_0000 + t) (f - 1) 1074 = of_bits_is n ∙ ap (λ (x : ℕ). of_fields binary64 s x t) e ∙ field_suc s t (f - 1) l in
    record {
      value = subst (λ (x : Float). HasValue x s ((0x10_0000_0000_0000 + t) * 2 ^ (f - 1)) (2 ^ 1074)) (sym v) (odd_sign 53 s (0x10_0000_0000_0000 + t) (f - 1) 1074);
      small = omega arith;
      full = λ h. omega arith;
      most = omega arith;
      some = λ h. omega arith;
    }

-- Answers with one refusal, by the test that decides; and the checked product and difference of i64s.
-- Assumes nothing.
use mathlib.Core.Path.{◌≡◌, refl, sym, ap, ◌∙◌}
use mathlib.Core.Bool.{Bool, true, false, not, cond}
use native.Mathlib.Omega.{arith}
use borrow.Author.Tests.{lt-ltb, lt-leb, ltb-true}
use lib.IntN.{ℤ, pos, negsuc}
use lib.Signed.{mag, lt_z, le_z}
use Prim.Native.Nat.{zero, suc, ◌^◌}
use mir.Syntax.{w64}
use mir.Val.{SFits, to_z, of_z}
use mir.ValLaws.{to_z-of_z}
use Rattle.std.specs.Prelude.{Option, Some, None, Result, Ok, Err, SomeIff}
use Rattle.std.specs.Option.{ok_or}
use Rattle.drift.specs.Entry.{fits64}
use Rattle.drift.specs.Code.{whole_of}
use Rattle.wire.specs.declared.refusal.Refusal.{Refusal}

-- a test of a signed number reads it back from its bits
pub sign_test : (z : ℤ) (b : Bool) → SFits w64 z → lt_z (pos 0) (to_z w64 (of_z w64 z)) ≡ b → lt_z (pos 0) z ≡ b
sign_test z b h e = ap (lt_z (pos 0)) (sym (to_z-of_z w64 z h)) ∙ e

not_above : (z : ℤ) → lt_z (pos 0) z ≡ not (le_z z (pos 0))
not_above (pos zero) = refl
not_above (pos (suc n)) = lt-ltb 0 (suc n) (omega arith) ∙ sym (ap not (lt-leb (suc n) 0 (omega arith)))
not_above (negsuc n) = refl

pub sign_test_below : (z : ℤ) (b : Bool) → SFits w64 z → le_z (to_z w64 (of_z w64 z)) (pos 0) ≡ b → lt_z (pos 0) z ≡ not b
sign_test_below z b h e = not_above z ∙ ap not (ap (λ (x : ℤ). le_z x (pos 0)) (sym (to_z-of_z w64 z h)) ∙ e)

-- ---- what an answer with one refusal says of its test
abbrev pub value_if : {A : Type 0} → Bool → A → Result A Refusal
value_if b x = cond b (Ok x) (Err Refusal.Overflow)

module _ {A : Type 0} where
  pub value_ok : (b : Bool) (x y : A) → value_if b x ≡ Ok y → (b ≡ true) × (y ≡ x)
  value_ok true x y h = (refl, grind arith)
  value_ok false x y h = absurd (grind arith)

  pub value_err : (b : Bool) (x : A) (e : Refusal) → value_if b x ≡ Err e → (b ≡ false) × (e ≡ Refusal.Overflow)
  value_err true x e h = absurd (grind arith)
  value_err false x e h = (refl, grind arith)

-- ---- a checked product or difference is the whole number where it is an i64
pub whole_from : (o : Option ℤ) (z : ℤ) → SomeIff o (SFits w64 z) z → o ≡ whole_of z
whole_from None z h = by (fits64 z) refl
  where
    by : (v : Bool) → fits64 z ≡ v → None ≡ cond v (Some z) None
    by true e = absurd (h (record { sfits = ltb-true (mag z) (2 ^ 63) e }))
    by false e = refl
whole_from (Some x) z h = rw (lt-ltb (mag z) (2 ^ 63) h.0.sfits, h.1)

-- a whole number that has to be an i64
pub whole_or : (z : ℤ) → ok_or (whole_of z) Refusal.Overflow ≡ value_if (fits64 z) z
whole_or z = by (fits64 z)
  where
    by : (v : Bool) → ok_or (cond v (Some z) None) Refusal.Overflow ≡ value_if v z
    by true = refl
    by false = refl

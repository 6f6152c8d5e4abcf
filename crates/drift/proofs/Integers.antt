-- What a test says of a number.
-- Assumes nothing.
use Prim.Native.Nat.{◌^◌}
use mathlib.Core.Path.{◌≡◌, sym, subst}
use mathlib.Core.Bool.{true, false}
use lib.Dec.{T}
use borrow.Author.Tests.{ltb-true}
use lib.IntN.{ℤ}
use lib.Signed.{mag}
use mir.Syntax.{w64}
use mir.Val.{SFits}
use Rattle.drift.specs.Entry.{fits64}

pub never : {A : Type 0} → false ≡ true → A
never e = absurd (subst T (sym e) tt)

-- ---- an i64
pub fits_of : (z : ℤ) → fits64 z ≡ true → SFits w64 z
fits_of z e = record { sfits = ltb-true (mag z) (2 ^ 63) e }

-- The casts of an order's number computed at chosen numbers, and a state read back from its number. Assumes nothing.
use mathlib.Core.Path.{◌≡◌, refl}
use mathlib.Core.List.{[], ◌∷◌, map}
use Prim.Native.Nat.{◌-◌, ◌^◌}
use lib.IntN.{pos, negsuc}
use Rattle.types.specs.Order.{sign_extended, truncated, state_number, state_of}
use Rattle.types.specs.declared.order.OrderState.{OrderState}
use Rattle.types.specs.declared.order.OrderState.TheVariants.{Pending, Submitted, PartiallyFilled, Filled, Cancelled, Rejected}
use Rattle.std.specs.Prelude.{Some}

-- 1, -1 and -2^31
pub extended : map sign_extended (pos 1 ∷ negsuc 0 ∷ negsuc 2147483647 ∷ []) ≡ 1 ∷ (2 ^ 64 - 1) ∷ (2 ^ 64 - 2 ^ 31) ∷ []
extended = refl

-- 4,294,967,297 (document 01's M8), 2^31, 2^63 - 1, -1, -2^31 - 1 and -2^63
pub cut : map truncated (pos 4294967297 ∷ pos 2147483648 ∷ pos 9223372036854775807 ∷ negsuc 0 ∷ negsuc 2147483648 ∷ negsuc 9223372036854775807 ∷ [])
    ≡ pos 1 ∷ negsuc 2147483647 ∷ negsuc 0 ∷ negsuc 0 ∷ pos 2147483647 ∷ pos 0 ∷ []
cut = refl

pub state_back : (s : OrderState) → state_of (state_number s) ≡ Some s
state_back Pending = refl
state_back Submitted = refl
state_back PartiallyFilled = refl
state_back Filled = refl
state_back Cancelled = refl
state_back Rejected = refl

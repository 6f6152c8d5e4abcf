-- Rust's casts of a recovered ibkr_id, and the numbers of the states of an order. Definitions only.
use Rattle.std.specs.Prelude.{ℕ, zero, suc, ◌%◌, ◌^◌, ℤ}
use Rattle.std.specs.Int.{w32, w64}
use Rattle.std.proofs.Common.{to_z, of_z}
use Rattle.types.specs.declared.order.OrderState.{OrderState}
use Rattle.types.specs.declared.order.OrderState.TheVariants.{Pending, Submitted, PartiallyFilled, Filled, Cancelled, Rejected}
use Rattle.std.specs.Prelude.{Some, None, Option}

-- `as u64` of an i32: the 64 bits of z in two's complement
abbrev pub sign_extended : ℤ → ℕ
sign_extended z = of_z w64 z

-- `as i32` of an i64: the low 32 of its 64 bits
abbrev pub truncated : ℤ → ℤ
truncated z = to_z w32 (of_z w64 z % 2 ^ 32)

-- "state 0 to 5 as in OrderState": in the enum's order
abbrev pub state_number : OrderState → ℕ
state_number Pending = 0
state_number Submitted = 1
state_number PartiallyFilled = 2
state_number Filled = 3
state_number Cancelled = 4
state_number Rejected = 5

abbrev pub state_of : ℕ → Option OrderState
state_of zero = Some Pending
state_of (suc zero) = Some Submitted
state_of (suc (suc zero)) = Some PartiallyFilled
state_of (suc (suc (suc zero))) = Some Filled
state_of (suc (suc (suc (suc zero)))) = Some Cancelled
state_of (suc (suc (suc (suc (suc zero))))) = Some Rejected
state_of (suc (suc (suc (suc (suc (suc n)))))) = None

-- The broker's sheet: its header, its two tables, and refusals 1 and 2. Each definition reads the front of a list of bytes.
-- Assumes nothing.
use Rattle.std.specs.Prelude.{ℕ, ◌+◌, ◌*◌, List, Bool, ◌&&◌, ◌||◌, eqb, leb, ltb, length, drop}
use Rattle.std.specs.Int.{w64}
use Rattle.std.proofs.Common.{to_z}
use Rattle.wire.specs.Le.{le}
use Rattle.wire.specs.Table.{every, records}
use Rattle.wire.specs.Layout.{sound_if, oversize_if, broken_if}
use Rattle.symbol.specs.Symbol.{field_symbol, wide_field_ok}
use Rattle.types.specs.Order.{state_of}
use Rattle.types.specs.declared.order.OrderState.{OrderState}
use Rattle.types.specs.declared.order.OrderState.TheVariants.{Pending}
use Rattle.sheet.specs.declared.BrokerOrderStatus.{BrokerOrderStatus}
use Rattle.sheet.specs.declared.BrokerPosition.{BrokerPosition}
use Rattle.std.specs.Prelude.{Some, None, Option}
use Rattle.wire.specs.Layout.{Layout}

-- ---- the header: order count, offset, position count, offset, orders_failed_lem, positions_failed_lem
abbrev pub order_count : List ℕ → ℕ
order_count s = le 4 s

abbrev pub position_count : List ℕ → ℕ
position_count s = le 4 (drop 8 s)

abbrev pub orders_failed : List ℕ → Bool
orders_failed s = eqb (le 4 (drop 16 s)) 1

abbrev pub positions_failed : List ℕ → Bool
positions_failed s = eqb (le 4 (drop 20 s)) 1

-- the tables
abbrev pub orders_in : List ℕ → List ℕ
orders_in s = drop 24 s

abbrev pub positions_in : List ℕ → List ℕ
positions_in s = drop (24 + 24 * order_count s) s

-- ---- an order: u64 OrderId, u64 remaining, u32 state 0 to 5, u32 zero
unfoldable pub broker_order_ok : List ℕ → Bool
broker_order_ok s = leb (le 4 (drop 16 s)) 5 && eqb (le 4 (drop 20 s)) 0

-- a number that names no state stands in no sheet that is right
abbrev pub state_in : Option OrderState → OrderState
state_in (Some x) = x
state_in None = Pending

abbrev pub broker_order_of : List ℕ → BrokerOrderStatus
broker_order_of s =
    record { id = record { 0 = le 8 s }; status = state_in (state_of (le 4 (drop 16 s))); remaining = le 8 (drop 8 s) }

unfoldable pub sheet_orders : List ℕ → List BrokerOrderStatus
sheet_orders s = records broker_order_of 24 (order_count s) (orders_in s)

-- ---- a position: a symbol field of 16 bytes, which `wide_field_ok` tests, and i64 quantity
abbrev pub broker_position_of : List ℕ → BrokerPosition
broker_position_of s = record { symbol = field_symbol s; quantity = to_z w64 (le 8 (drop 16 s)) }

unfoldable pub sheet_positions : List ℕ → List BrokerPosition
sheet_positions s = records broker_position_of 24 (position_count s) (positions_in s)

-- ---- the layout
-- each list has at most so many records
abbrev pub sheet_most : ℕ
sheet_most = 1024

-- both tables follow without gaps and end the sheet
unfoldable pub offsets_ok : ℕ → ℕ → ℕ → ℕ → ℕ → Bool
offsets_ok orders orders_at positions positions_at len =
    eqb orders_at 24 && eqb positions_at (24 + 24 * orders) && eqb len (24 + 24 * orders + 24 * positions)

-- a failed mark is 0 or 1; 1 requires count 0
unfoldable pub mark_ok : ℕ → ℕ → Bool
mark_ok mark count = eqb mark 0 || (eqb mark 1 && eqb count 0)

unfoldable pub header_ok : List ℕ → Bool
header_ok s =
    offsets_ok (order_count s) (le 4 (drop 4 s)) (position_count s) (le 4 (drop 12 s)) (length s)
    && mark_ok (le 4 (drop 16 s)) (order_count s) && mark_ok (le 4 (drop 20 s)) (position_count s)

-- every rule of refusal 2, where the header is whole
unfoldable pub parts_ok : List ℕ → Bool
parts_ok s =
    header_ok s && every broker_order_ok 24 (order_count s) (orders_in s) && every wide_field_ok 24 (position_count s) (positions_in s)

-- Refusals 1 and 2 of a sheet: a header that is not whole; too many orders or positions, as the header claims; any other rule.
unfoldable pub sheet_layout : List ℕ → Layout
sheet_layout s =
    broken_if (ltb (length s) 24)
    (oversize_if (ltb sheet_most (order_count s) || ltb sheet_most (position_count s)) (sound_if (parts_ok s)))

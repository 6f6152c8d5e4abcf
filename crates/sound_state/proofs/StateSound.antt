-- A recovered state passes, with its book, the test of the entry `states_equal`, which so answers whether two recovered states are equal. About no
-- function.
-- Assumes nothing.
use Prim.Native.Nat.{ℕ, ◌+◌}
use mathlib.Core.Path.{◌≡◌, refl, ap}
use mathlib.Core.List.{List, [], ◌++◌}
use mathlib.Core.Bool.{true}
use native.Mathlib.Omega.{arith}
use lib.IntN.{ℤ}
use lib.ListN.{drop}
use borrow.Author.Tests.{le-leb}
use mir.Syntax.{w32, w64}
use mir.Val.{of_z}
use Rattle.wire.specs.Le.{le, bytes_of}
use Rattle.wire.specs.Table.{encoded}
use Rattle.wire.specs.Layout.{sound_if}
use Rattle.wire.proofs.Written.{Bytes, le_bytes_of}
use Rattle.wire.proofs.Records.{Each}
use Rattle.symbol.specs.Symbol.{field_bytes}
use Rattle.cell.specs.declared.TextRef.{TextRef}
use Rattle.book.specs.Layout.{book_layout, text_length}
use Rattle.book.specs.Event.{text_of}
use Rattle.records.specs.Record.{flags_of, ref_bytes, str_bytes, order_bytes, position_bytes}
use Rattle.records.specs.declared.order.Order.{Order}
use Rattle.records.proofs.Orders.{order_size, RefFits}
use Rattle.records.proofs.Walk.{table_pass}
use Rattle.effects.specs.Step.{ref_or}
use Rattle.effects.proofs.CellFits.{ref_fits}
use Rattle.recovery.specs.Recover.{state_of}
use Rattle.state.specs.State.{ref_in, refs_ok, refs_layout, state_layout, same_state, states_equal}
use Rattle.sound_state.proofs.Tables.{and_both}
use Rattle.sound_state.proofs.Good.{RefIn, Good}
use Rattle.sound_state.proofs.GoodOrders.{ref_within}
use Rattle.sound_state.proofs.GoodBook.{state_good}
use Rattle.sound_state.proofs.Recovered.{recovered_orders_sound, recovered_orders_in, recovered_positions_sound, recovered_positions_in}
use Rattle.std.specs.Prelude.{Some, None, Ok, Option}

-- ---- the references of an order that was written lie within the book's text
unfoldable shape : Order → TextRef → TextRef → List ℕ
shape o c r =
    field_bytes o.symbol ++ bytes_of 1 (flags_of o) ++ bytes_of 2 0 ++ bytes_of 4 (of_z w32 o.id) ++ bytes_of 8 (of_z w64 o.shares)
    ++ bytes_of 8 (of_z w64 o.limit) ++ ref_bytes o.action ++ ref_bytes c ++ ref_bytes r ++ bytes_of 8 0

str_shape : (a : (Option TextRef)) → str_bytes a ≡ ref_bytes (ref_or a)
str_shape (Some r) = refl
str_shape None = refl

order_shape : (o : Order) (t : List ℕ) → order_bytes o ++ t ≡ shape o (ref_or o.client) (ref_or o.reason) ++ t
unfolding order_bytes shape
order_shape o t = rw (str_shape o.client, str_shape o.reason)

ref_by : (n : ℕ) (s : List ℕ) (r : TextRef) → le 4 s ≡ r.first → le 4 (drop 4 s) ≡ r.len → RefIn n r → ref_in n s ≡ true
ref_by n s r p q h = rw (p, q) (le-leb (r.first + r.len) n h)

module _ (o : Order) (c r : TextRef) (t : List ℕ) (n : ℕ) where
  action_in : RefFits o.action → RefIn n o.action → ref_in n (drop 32 (shape o c r ++ t)) ≡ true
  unfolding shape bytes_of le
  action_in f h = ref_by n (drop 32 (shape o c r ++ t)) o.action (le_bytes_of 4 o.action.first [] f.first) (le_bytes_of 4 o.action.len [] f.len) h

  client_in : RefFits c → RefIn n c → ref_in n (drop 40 (shape o c r ++ t)) ≡ true
  unfolding shape bytes_of le
  client_in f h = ref_by n (drop 40 (shape o c r ++ t)) c (le_bytes_of 4 c.first [] f.first) (le_bytes_of 4 c.len [] f.len) h

  reason_in : RefFits r → RefIn n r → ref_in n (drop 48 (shape o c r ++ t)) ≡ true
  unfolding shape bytes_of le
  reason_in f h = ref_by n (drop 48 (shape o c r ++ t)) r (le_bytes_of 4 r.first [] f.first) (le_bytes_of 4 r.len [] f.len) h

order_refs : (n : ℕ) (o : Order) (t : List ℕ) → Good n o → refs_ok n (order_bytes o ++ t) ≡ true
unfolding refs_ok
order_refs n o t g =
    let c = ref_or o.client in
    let r = ref_or o.reason in
    rw (order_shape o t)
    (and_both
    (and_both (action_in o c r t n g.fits.action g.refs.action)
    (client_in o c r t n (ref_fits o.client g.fits.client) (ref_within n o.client g.refs.client)))
    (reason_in o c r t n (ref_fits o.reason g.fits.reason) (ref_within n o.reason g.refs.reason)))

refs_sound : (n : ℕ) (os : List Order) → Each (Good n) os → refs_layout n (encoded order_bytes os) ≡ (Ok tt)
refs_sound n os g =
    ap sound_if (table_pass order_bytes (refs_ok n) 64 order_size (Good n) (order_refs n) os g (omega arith) (omega arith))

-- ---- a recovered state, with its book, passes
pub state_sound : (log : List ℕ) (time : ℤ) → Bytes log → book_layout log ≡ (Ok tt)
    → state_layout log (encoded order_bytes (state_of log time).orders) (encoded position_bytes (state_of log time).positions) ≡ (Ok tt)
unfolding state_layout
state_sound log time b s =
    rw (
      s,
      recovered_orders_sound log time b s,
      refs_sound (text_length log) (state_of log time).orders (state_good log time b s).orders,
      recovered_positions_sound log time b s,
    )

-- ---- so the entry compares the two states
pub states_compared : (a b : List ℕ) (s t : ℤ) → Bytes a → Bytes b → book_layout a ≡ (Ok tt) → book_layout b ≡ (Ok tt)
    → states_equal a (state_of a s).marks (encoded order_bytes (state_of a s).orders) (encoded position_bytes (state_of a s).positions)
    b (state_of b t).marks (encoded order_bytes (state_of b t).orders) (encoded position_bytes (state_of b t).positions)
    ≡ Ok (same_state (text_of a) (text_of b) (state_of a s).marks (state_of b t).marks (state_of a s).orders (state_of b t).orders
    (state_of a s).positions (state_of b t).positions)
unfolding states_equal
states_compared a b s t ba bb sa sb =
    rw (
      state_sound a s ba sa,
      state_sound b t bb sb,
      recovered_orders_in a s ba sa,
      recovered_orders_in b t bb sb,
      recovered_positions_in a s ba sa,
      recovered_positions_in b t bb sb,
    )

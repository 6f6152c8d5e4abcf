-- The events of a sound book of bytes are good, and so is the state that recovery makes of them. About no function.
-- Assumes nothing.
use Prim.Native.Nat.{ℕ, zero, suc, ◌+◌, ◌*◌, ◌/◌, ◌%◌, ◌^◌}
use mathlib.Core.Path.{◌≡◌}
use mathlib.Core.List.{List, [], ◌∷◌}
use mathlib.Core.Bool.{true}
use native.Mathlib.Omega.{arith}
use lib.IntN.{ℤ}
use lib.ListN.{drop}
use borrow.Author.Tests.{leb-true}
use Rattle.wire.specs.Le.{le}
use Rattle.wire.specs.Table.{every, records}
use Rattle.wire.proofs.Written.{Bytes}
use Rattle.wire.proofs.Records.{Each}
use Rattle.wire.proofs.Records as Of
use Rattle.wire.proofs.Bools.{and_left, and_right}
use Rattle.symbol.proofs.Text.{bytes_take, bytes_drop}
use Rattle.cell.specs.Cell.{cell_by, cell_of, as_str, as_array}
use Rattle.book.specs.Layout.{payload_ok, cell_ok, row_ok, event_ok, event_count, row_count, text_length, book_layout}
use Rattle.book.specs.Event.{events_in, rows_in, text_of, symbol_cell, positions_cell, orders_cell}
use Rattle.effects.specs.Event.{Event, bytes_of_text, row_of, rows_of, event_of, events_of}
use Rattle.effects.proofs.CellFits.{str_fits, whole_fits}
use Rattle.recovery.specs.Recover.{State, first_state, step, steps, state_of}
use Rattle.book.proofs.Sound.{ArrayIn, cell_array}
use Rattle.sound_state.proofs.Tables.{every_from}
use Rattle.sound_state.proofs.Tabled.{laid, row_cell_at, event_cell_at}
use Rattle.sound_state.proofs.Good.{StrIn, GoodState, GoodStr, TextBytes, GoodRow, GoodRows, GoodEvent}
use Rattle.sound_state.proofs.GoodOrders.{orders_step_lem}
use Rattle.sound_state.proofs.GoodPositions.{positions_step_lem}
use Rattle.cell.specs.declared.TextRef.{TextRef}
use Rattle.cell.specs.declared.ListRef.{ListRef}
use Rattle.std.specs.Prelude.{Some, None, Ok, Option}

-- ---- a cell's text lies within the book's
str_payload : (rows text k p : ℕ) → payload_ok rows text k p ≡ true → StrIn text (as_str (cell_by k p))
unfolding payload_ok cell_by
str_payload rows text zero p e = tt
str_payload rows text (suc zero) p e = tt
str_payload rows text (suc (suc zero)) p e = tt
str_payload rows text (suc (suc (suc zero))) p e = tt
str_payload rows text (suc (suc (suc (suc zero)))) p e = leb-true (p % 2 ^ 32 + p / 2 ^ 32) text e
str_payload rows text (suc (suc (suc (suc (suc zero))))) p e = tt
str_payload rows text (suc (suc (suc (suc (suc (suc zero)))))) p e = tt
str_payload rows text (suc (suc (suc (suc (suc (suc (suc k))))))) p e = tt

str_within : (rows text : ℕ) (s : List ℕ) → cell_ok rows text s ≡ true → StrIn text (as_str (cell_of s))
unfolding cell_ok cell_of
str_within rows text s e = str_payload rows text (le 8 s) (le 8 (drop 8 s)) e

str_good : (rows text : ℕ) (s : List ℕ) → Bytes s → cell_ok rows text s ≡ true → GoodStr text (as_str (cell_of s))
str_good rows text s b e = record { fits = str_fits s b; within = str_within rows text s e }

-- ---- the texts of cells are bytes
text_good : (text : List ℕ) (a : (Option TextRef)) → Bytes text → TextBytes (bytes_of_text text a)
text_good text (Some r) b = bytes_take r.len (drop r.first text) (bytes_drop r.first text b)
text_good text None b = tt

-- ---- rows
row_good : (rows : ℕ) (text r : List ℕ) (n : ℕ) → Bytes text → Bytes r → row_ok rows n r ≡ true → GoodRow n (row_of text r)
row_good rows text r n bt br h =
    record {
      symbol = text_good text (as_str (cell_of r)) bt;
      action = str_good rows n (drop 16 r) (bytes_drop 16 r br) (row_cell_at rows n r 1 h (omega arith));
      amount = whole_fits (drop 32 r) (bytes_drop 32 r br);
    }

rows_good : (rows : ℕ) (text : List ℕ) (n : ℕ) → Bytes text → (k : ℕ) (s : List ℕ) → Bytes s → every (row_ok rows n) 64 k s ≡ true
    → Each (GoodRow n) (records (row_of text) 64 k s)
unfolding every records
rows_good rows text n bt zero s b h = Of.none
rows_good rows text n bt (suc k) s b h =
    Of.more (row_good rows text s n bt b (and_left (row_ok rows n s) _ h))
    (rows_good rows text n bt k (drop 64 s) (bytes_drop 64 s b) (and_right (row_ok rows n s) (every (row_ok rows n) 64 k (drop 64 s)) h))

array_good : (rows : ℕ) (table text : List ℕ) (n : ℕ) → Bytes text → Bytes table → every (row_ok rows n) 64 rows table ≡ true
    → (a : (Option ListRef)) → ArrayIn rows a → GoodRows n (rows_of table text a)
array_good rows table text n bt br h None q = tt
array_good rows table text n bt br h (Some l) q =
    rows_good rows text n bt l.count (drop (64 * l.first) table) (bytes_drop (64 * l.first) table br) (every_from (row_ok rows n) 64 l.first l.count rows table q h)

-- ---- events
module _ (rows : ℕ) (table text : List ℕ) (n : ℕ) (bt : Bytes text) (br : Bytes table) (ok : every (row_ok rows n) 64 rows table ≡ true) where
  event_good : (e : List ℕ) → Bytes e → event_ok rows n e ≡ true → GoodEvent n (event_of table text e)
  event_good e b h =
      record {
        symbol = text_good text (as_str (symbol_cell e)) bt;
        action = str_good rows n (drop 48 e) (bytes_drop 48 e b) (event_cell_at rows n e 1 h (omega arith));
        client = str_good rows n (drop 64 e) (bytes_drop 64 e b) (event_cell_at rows n e 2 h (omega arith));
        shares = whole_fits (drop 80 e) (bytes_drop 80 e b);
        reason = str_good rows n (drop 128 e) (bytes_drop 128 e b) (event_cell_at rows n e 6 h (omega arith));
        positions =
            array_good rows table text n bt br ok (as_array (positions_cell e)) (cell_array rows n (drop 176 e) (event_cell_at rows n e 9 h (omega arith)));
        orders = array_good rows table text n bt br ok (as_array (orders_cell e)) (cell_array rows n (drop 192 e) (event_cell_at rows n e 10 h (omega arith)));
      }

  events_good : (k : ℕ) (s : List ℕ) → Bytes s → every (event_ok rows n) 240 k s ≡ true → Each (GoodEvent n) (records (event_of table text) 240 k s)
  unfolding every records
  events_good zero s b h = Of.none
  events_good (suc k) s b h =
      Of.more (event_good s b (and_left (event_ok rows n s) _ h))
      (events_good k (drop 240 s) (bytes_drop 240 s b) (and_right (event_ok rows n s) (every (event_ok rows n) 240 k (drop 240 s)) h))

-- ---- the state
steps_good : (n : ℕ) (es : List Event) (st : State) → Each (GoodEvent n) es → GoodState n st → GoodState n (steps st es)
unfolding steps
steps_good n [] st Of.none h = h
steps_good n (e ∷ es) st (Of.more g gs) h =
    steps_good n es (step e st) gs
    (record { orders = orders_step_lem n st.orders h.orders e g; positions = positions_step_lem n e st.positions g.positions h.positions })

pub state_good : (log : List ℕ) (time : ℤ) → Bytes log → book_layout log ≡ (Ok tt) → GoodState (text_length log) (state_of log time)
state_good log time b h =
    let k = laid log h in
    let bt = bytes_drop (24 + 240 * event_count log + 64 * row_count log) log b in
    let br = bytes_drop (24 + 240 * event_count log) log b in
    let es =
    events_good (row_count log) (rows_in log) (text_of log) (text_length log) bt br k.rows (event_count log) (events_in log) (bytes_drop 24 log b) k.events in
    steps_good (text_length log) (events_of log) (first_state time) es (record { orders = Of.none; positions = Of.none })

-- Buffers as long as a sound book have room for all that it recovers, after each event: a list makes at most as many orders or positions as the book has rows,
-- of 64 bytes each, and another event at most one order. About no function.
-- Assumes nothing.
use Rattle.checkpoint.specs.declared.Checkpoint.{Checkpoint}
use Rattle.cell.specs.declared.ListRef.{ListRef}
use Prim.Native.Nat.{ℕ, zero, suc, ◌+◌, ◌*◌, ◌≤◌}
use mathlib.Core.Path.{◌≡◌, refl}
use mathlib.Core.List.{List, [], ◌∷◌}
use mathlib.Core.Bool.{Bool, true, false, cond, ◌||◌}
use native.Mathlib.Omega.{arith}
use native.Mathlib.Nat.{le_refl}
use borrow.Author.Tests.{le-leb}
use lib.Dec.{lit<}
use lib.IntN.{ℤ}
use lib.ListN.{length, drop}
use Rattle.wire.specs.Table.{every, records}
use Rattle.wire.proofs.Bools.{and_left, and_right}
use Rattle.wire.proofs.Records.{length_records}
use Rattle.cell.specs.Cell.{as_array}
use Rattle.book.specs.Layout.{event_ok, event_count, row_count, text_length, book_layout}
use Rattle.book.specs.Event.{events_in, rows_in, text_of, name_in, positions_cell}
use Rattle.book.proofs.Sound.{cell_list, sound_size}
use Rattle.checkpoint.specs.Checkpoint.{named, same_checkpoint}
use Rattle.checkpoint.specs.declared.Checkpoint.TheVariants.{PositionsFetched, PositionsResult}
use Rattle.records.specs.declared.position.Position.{Position}
use Rattle.effects.specs.Event.{Row, event_of, events_of, row_of, rows_of}
use Rattle.effects.specs.Step.{kept_of, kept_before, positions_of_rows, positions_from, positions_at, positions_by}
use Rattle.recovery.specs.Recover.{State, first_state, step, roomy}
use Rattle.recovery.proofs.OrdersFew.{orders_few}
use Rattle.sound_state.proofs.Tables.{and_both}
use Rattle.sound_state.proofs.Tabled.{laid, event_cell_at}
use Rattle.std.specs.Prelude.{Some, None, Ok, Option}

-- ---- positions: at most as many as there are rows
kept_few : (k : (Option Position)) (ps : List Position) (n : ℕ) → length ps ≤ n → length (kept_before k ps) ≤ n + 1
kept_few (Some p) ps n h = omega arith
kept_few None ps n h = omega arith

rows_few : (rs : List Row) → length (positions_of_rows rs) ≤ length rs
unfolding positions_of_rows
rows_few [] = omega arith
rows_few (r ∷ rs) = omega (arith, kept_few (kept_of r) (positions_of_rows rs) (length rs) (rows_few rs))

module _ (rows text e : List ℕ) (count len : ℕ) (ok : event_ok count len e ≡ true) (ps : List Position) (few : length ps ≤ count) where
  listed_few : (a : (Option ListRef)) → as_array (positions_cell e) ≡ a → length (positions_from (rows_of rows text a) ps) ≤ count
  listed_few None q = few
  listed_few (Some a) q =
      let first = a.first in
      let n = a.count in
      let l : n ≤ count = cell_list count len (drop 176 e) (event_cell_at count len e 9 ok (lit< tt)) q in
      let rs = records (row_of text) 64 n (drop (64 * first) rows) in
      omega (arith, rows_few rs, length_records (row_of text) 64 n (drop (64 * first) rows))

  positions_few : (k : (Option Checkpoint)) → length (positions_by k (event_of rows text e) ps) ≤ count
  unfolding positions_by positions_at
  positions_few None = few
  positions_few (Some k) = by (same_checkpoint k PositionsFetched || same_checkpoint k PositionsResult)
    where
      by : (b : Bool) → length (cond b (positions_from (rows_of rows text (as_array (positions_cell e))) ps) ps) ≤ count
      by true = listed_few (as_array (positions_cell e)) refl
      by false = few

-- ---- n events more, after i of them
module _ (rows text : List ℕ) (count len orders positions : ℕ) (second : 32 * count ≤ positions) where
  walk_roomy : (n i : ℕ) (s : List ℕ) (st : State) → every (event_ok count len) 240 n s ≡ true → 64 * (count + i + n) ≤ orders
      → length st.orders ≤ count + i → length st.positions ≤ count
      → roomy orders positions st (records (event_of rows text) 240 n s) ≡ true
  unfolding every records roomy
  walk_roomy zero i s st h first o p = refl
  walk_roomy (suc n) i s st h first o p =
      let e = event_of rows text s in
      let ok = and_left (event_ok count len s) (every (event_ok count len) 240 n (drop 240 s)) h in
      let a = orders_few count st.orders i o rows text s count len ok (le_refl count) (named (name_in text s)) in
      let b = positions_few rows text s count len ok st.positions p (named (name_in text s)) in
      let next = walk_roomy n (i + 1) (drop 240 s) (step e st) (and_right (event_ok count len s) (every (event_ok count len) 240 n (drop 240 s)) h) (omega arith) a b in
      let x = step e st in
      and_both
      (and_both (le-leb (64 * length x.orders) orders (omega arith)) (le-leb (32 * length x.positions) positions (omega arith)))
      next

pub has_room : (s : List ℕ) (time : ℤ) (orders positions : ℕ) → book_layout s ≡ (Ok tt) → length s ≤ orders → length s ≤ positions
    → roomy orders positions (first_state time) (events_of s) ≡ true
has_room s time orders positions sound o p =
    let k = laid s sound in
    let n = sound_size s sound in
    walk_roomy (rows_in s) (text_of s) (row_count s) (text_length s) orders positions (omega arith) (event_count s) 0 (events_in s) (first_state time) k.events
    (omega arith) (omega arith) (omega arith)

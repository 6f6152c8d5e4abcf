-- The records that recovery makes of a sound book of bytes pass the tests of their layouts and read back; the caller's time is in none of them. About no
-- function.
-- Assumes nothing.
use Prim.Native.Nat.{ℕ}
use mathlib.Core.Path.{◌≡◌, refl, ap}
use mathlib.Core.List.{List, [], ◌∷◌}
use lib.IntN.{ℤ, pos}
use Rattle.wire.specs.Table.{encoded}
use Rattle.wire.proofs.Written.{Bytes}
use Rattle.book.specs.Layout.{book_layout, text_length}
use Rattle.records.specs.Record.{order_bytes, orders_in, orders_layout, position_bytes, positions_in, positions_layout}
use Rattle.records.specs.declared.order.Order.{Order}
use Rattle.records.specs.declared.position.Position.{Position}
use Rattle.records.proofs.Orders.{OrderPasses, orders_in_lem, orders_sound}
use Rattle.records.proofs.Positions.{PositionFits, PositionPasses, positions_in_lem, positions_sound}
use Rattle.marks.specs.Marks.{marks_at}
use Rattle.marks.specs.declared.Marks.{Marks}
use Rattle.effects.specs.Event.{Event, events_of}
use Rattle.effects.specs.Step.{marks_by, orders_step, positions_step}
use Rattle.recovery.specs.Recover.{State, first_state, step, steps, state_of}
use Rattle.sound_state.proofs.Tables.{each_map}
use Rattle.sound_state.proofs.Spelling.{spelt_fits, spelt_field, spelt_wide}
use Rattle.sound_state.proofs.Good.{Good, GoodPosition}
use Rattle.sound_state.proofs.GoodBook.{state_good}
use Rattle.checkpoint.specs.declared.Checkpoint.{Checkpoint}
use Rattle.std.specs.Prelude.{Some, None, Ok, Option}

-- ---- records
pub good_passes : (n : ℕ) (o : Order) → Good n o → OrderPasses o
good_passes n o g = record { fits = g.fits; field = spelt_field o.symbol g.symbol }

position_fits : (p : Position) → GoodPosition p → PositionFits p
position_fits p g =
    let y = spelt_fits p.symbol g.symbol in record { word = y.word; len = y.len; quantity = g.quantity; cost = g.cost }

position_good : (p : Position) → GoodPosition p → PositionPasses p
position_good p g = record { fits = position_fits p g; field = spelt_wide p.symbol g.symbol }

module _ (log : List ℕ) (time : ℤ) (b : Bytes log) (s : book_layout log ≡ (Ok tt)) where
  pub recovered_orders_sound : orders_layout (encoded order_bytes (state_of log time).orders) ≡ (Ok tt)
  recovered_orders_sound =
      let os = (state_of log time).orders in orders_sound os (each_map os (good_passes (text_length log)) (state_good log time b s).orders)

  pub recovered_orders_in : orders_in (encoded order_bytes (state_of log time).orders) ≡ (state_of log time).orders
  recovered_orders_in = let os = (state_of log time).orders in orders_in_lem os (each_map os (λ o g. g.fits) (state_good log time b s).orders)

  pub recovered_positions_sound : positions_layout (encoded position_bytes (state_of log time).positions) ≡ (Ok tt)
  recovered_positions_sound =
      let ps = (state_of log time).positions in positions_sound ps (each_map ps position_good (state_good log time b s).positions)

  pub recovered_positions_in : positions_in (encoded position_bytes (state_of log time).positions) ≡ (state_of log time).positions
  recovered_positions_in = let ps = (state_of log time).positions in positions_in_lem ps (each_map ps position_fits (state_good log time b s).positions)

-- ---- the caller's time: two states that differ in the marks' time alone
abbrev pub timeless : Marks → Marks
timeless m =
    record {
      checkpoint = m.checkpoint;
      number = m.number;
      time = pos 0;
      equity = m.equity;
      completed = m.completed;
      positions = m.positions;
      quotes = m.quotes;
      account = m.account;
      cancel = m.cancel;
      cancelfailed = m.cancelfailed;
    }

pub record ButTime (a b : State) : Type 0 where
  pub marks : timeless a.marks ≡ timeless b.marks
  pub orders : a.orders ≡ b.orders
  pub positions : a.positions ≡ b.positions

marks_by_lem : (k : (Option Checkpoint)) (e : Event) (m n : Marks) → timeless m ≡ timeless n → timeless (marks_by k e m) ≡ timeless (marks_by k e n)
unfolding marks_by marks_at
marks_by_lem None e m n h = h
marks_by_lem (Some k) e m n h = ap (λ (x : Marks). timeless (marks_at k e.number e.time e.equity e.success x)) h

pub step_but_time : (e : Event) (a b : State) → ButTime a b → ButTime (step e a) (step e b)
step_but_time e a b h =
    record {
      marks = marks_by_lem e.checkpoint e a.marks b.marks h.marks;
      orders = ap (orders_step e) h.orders;
      positions = ap (positions_step e) h.positions;
    }

steps_but_time : (es : List Event) (a b : State) → ButTime a b → ButTime (steps a es) (steps b es)
unfolding steps
steps_but_time [] a b h = h
steps_but_time (e ∷ es) a b h = steps_but_time es (step e a) (step e b) (step_but_time e a b h)

pub time_apart : (log : List ℕ) (now then : ℤ) → ButTime (state_of log now) (state_of log then)
time_apart log now then = steps_but_time (events_of log) (first_state now) (first_state then) (record { marks = refl; orders = refl; positions = refl })

-- The sheet's orders, as a loop over their records reads them, and what a sound sheet is known to hold.
-- Assumes nothing.
use Prim.Native.Nat.{ℕ, zero, suc, ◌+◌, ◌*◌, ◌≤◌, ◌<◌}
use mathlib.Core.Path.{◌≡◌, refl, sym, subst, ◌∙◌}
use mathlib.Core.Bool.{Bool, true, false, ◌&&◌, ◌||◌}
use mathlib.Core.List.{List, [], ◌∷◌}
use native.Mathlib.Nat.{not-suc-le-zero, le_of_suc-le-suc, mul-suc, mul-zero, add-zero}
use native.Mathlib.Numerals.{add-one}
use native.Mathlib.Omega.{arith}
use lib.Dec.{T, eqb, leb, ltb}
use borrow.Author.Tests.{lt-leb, ne_eqb, eqb-true, ltb-false}
use lib.ListN.{length, drop, drop_of_length-le}
use lib.Seq.{drop-drop}
use Rattle.wire.specs.Le.{le}
use Rattle.wire.specs.Table.{every, records}
use Rattle.wire.specs.Layout.{sound_if, oversize_if, broken_if}
use Rattle.wire.proofs.Table.{records_none}
use Rattle.wire.proofs.Numbers.{le_add}
use Rattle.wire.proofs.Records.{length_records}
use Rattle.symbol.specs.Symbol.{wide_field_ok}
use Rattle.wire.proofs.Bools.{and_left, and_right, and_false, and-true}
use Rattle.sheet.specs.Sheet.{order_count, position_count, orders_failed, positions_failed, orders_in, positions_in, broker_order_ok, broker_order_of, broker_position_of, sheet_orders, sheet_positions, sheet_most, offsets_ok, mark_ok, header_ok, parts_ok, sheet_layout}
use Rattle.std.specs.Prelude.{Ok}
use Rattle.wire.specs.Layout.{Layout}

-- the state and the four zeros after it are one number of at most 5
low_only : (a x : ℕ) → leb (a + 4294967296 * x) 5 ≡ (leb a 5 && eqb x 0)
low_only a zero = rw (mul-zero 4294967296, add-zero a) (sym (and-true (leb a 5)))
low_only a (suc x) =
    rw (lt-leb (a + 4294967296 * suc x) 5 (omega arith), ne_eqb (suc x) 0 (λ e. omega arith)) (sym (and_false (leb a 5)))

pub state_number_lem : (s : List ℕ) → leb (le 8 (drop 16 s)) 5 ≡ broker_order_ok s
unfolding broker_order_ok
state_number_lem s = rw (le_add 4 4 (drop 16 s), drop-drop 4 16 s) (low_only (le 4 (drop 16 s)) (le 4 (drop 20 s)))

-- ---- the records from index i on: the one there, and those after it
records_from : {A : Type 0} (g : List ℕ → A) (w n i : ℕ) (s : List ℕ) → i < n
    → drop i (records g w n s) ≡ g (drop (w * i) s) ∷ drop (suc i) (records g w n s)
unfolding records
records_from g w zero i s h = absurd (not-suc-le-zero h)
records_from g w (suc n) zero s h = rw (mul-zero w)
records_from g w (suc n) (suc i) s h =
    let e : w * suc i ≡ w + w * i = rw mul-suc (omega arith) in
    records_from g w n i (drop w s) (le_of_suc-le-suc h) ∙ rw (drop-drop (w * i) w s, e)

module _ (s : List ℕ) (i : ℕ) where
  pub orders_step_lem : i < order_count s → drop i (sheet_orders s) ≡ broker_order_of (drop (24 + 24 * i) s) ∷ drop (i + 1) (sheet_orders s)
  unfolding sheet_orders
  orders_step_lem h = rw add-one (records_from broker_order_of 24 (order_count s) i (drop 24 s) h ∙ rw (drop-drop (24 * i) 24 s))

  pub orders_end : order_count s ≤ i → drop i (sheet_orders s) ≡ []
  unfolding sheet_orders
  orders_end h = drop_of_length-le (sheet_orders s) {i = i} (rw (length_records broker_order_of 24 (order_count s) (drop 24 s)) h)

-- ---- what a sound sheet holds
broken_no : (b : Bool) (y : Layout) → broken_if b y ≡ (Ok tt) → (b ≡ false) × (y ≡ (Ok tt))
broken_no true y e = let z : ◌≡◌ {A = ℕ} 0 1 = cc in absurd (omega arith)
broken_no false y e = (refl, e)

oversize_no : (b : Bool) (y : Layout) → oversize_if b y ≡ (Ok tt) → (b ≡ false) × (y ≡ (Ok tt))
oversize_no true y e = let z : ◌≡◌ {A = ℕ} 0 1 = cc in absurd (omega arith)
oversize_no false y e = (refl, e)

sound_yes : (b : Bool) → sound_if b ≡ (Ok tt) → b ≡ true
sound_yes true e = refl
sound_yes false e = let z : ◌≡◌ {A = ℕ} 0 1 = cc in absurd (omega arith)

or_no : (a b : Bool) → (a || b) ≡ false → (a ≡ false) × (b ≡ false)
or_no true b e = absurd (subst T e tt)
or_no false b e = (refl, e)

-- a failed mark leaves no record
failed_none : (mark count : ℕ) → mark_ok mark count ≡ true → eqb mark 1 ≡ true → count ≡ 0
unfolding mark_ok
failed_none mark count h e =
    let m = eqb-true mark 1 e in
    let f : eqb mark 0 ≡ false = ne_eqb mark 0 (λ z. omega arith) in
    eqb-true count 0 (rw (f, e) at h)

pub record SoundSheet (s : List ℕ) : Type 0 where
  pub orders_most : order_count s ≤ sheet_most
  pub positions_most : position_count s ≤ sheet_most
  pub size : length s ≡ 24 + 24 * order_count s + 24 * position_count s
  pub orders_none : orders_failed s ≡ true → sheet_orders s ≡ []
  pub positions_none : positions_failed s ≡ true → sheet_positions s ≡ []
  pub orders_right : every broker_order_ok 24 (order_count s) (orders_in s) ≡ true
  pub positions_right : every wide_field_ok 24 (position_count s) (positions_in s) ≡ true

pub sound_sheet : (s : List ℕ) → sheet_layout s ≡ (Ok tt) → SoundSheet s
unfolding sheet_layout parts_ok header_ok offsets_ok sheet_orders sheet_positions
sound_sheet s e =
    let n = order_count s in
    let m = position_count s in
    let orders = every broker_order_ok 24 n (orders_in s) in
    let positions = every wide_field_ok 24 m (positions_in s) in
    let orders_mark = mark_ok (le 4 (drop 16 s)) n in
    let positions_mark = mark_ok (le 4 (drop 20 s)) m in
    let ends = eqb (length s) (24 + 24 * n + 24 * m) in
    let starts = eqb (le 4 (drop 4 s)) 24 && eqb (le 4 (drop 12 s)) (24 + 24 * n) in
    let most = oversize_no (ltb sheet_most n || ltb sheet_most m) (sound_if (parts_ok s)) (broken_no (ltb (length s) 24) _ e).1 in
    let o = or_no (ltb sheet_most n) (ltb sheet_most m) most.0 in
    let parts = sound_yes (header_ok s && orders && positions) most.1 in
    let tables = and_left (header_ok s && orders) positions parts in
    let header = and_left (header_ok s) orders tables in
    let front = and_left (starts && ends && orders_mark) positions_mark header in
    record {
      orders_most = ltb-false sheet_most n o.0;
      positions_most = ltb-false sheet_most m o.1;
      size = eqb-true (length s) (24 + 24 * n + 24 * m) (and_right starts ends (and_left (starts && ends) orders_mark front));
      orders_none = λ p.
          let z = failed_none (le 4 (drop 16 s)) n (and_right (starts && ends) orders_mark front) p in
          records_none broker_order_of 24 n (orders_in s) (omega arith);
      positions_none = λ p.
          let z = failed_none (le 4 (drop 20 s)) m (and_right (starts && ends && orders_mark) positions_mark header) p in
          records_none broker_position_of 24 m (positions_in s) (omega arith);
      orders_right = and_right (header_ok s) orders tables;
      positions_right = and_right (header_ok s && orders) positions parts;
    }

-- A sound book's tables: the lengths of its parts, and that each event, each row and each of their cells passes its test. About no function.
-- Assumes nothing.
use Prim.Native.Nat.{ℕ, ◌+◌, ◌*◌, ◌≤◌, ◌<◌}
use mathlib.Core.Path.{◌≡◌, sym, ap, ◌∙◌}
use mathlib.Core.List.{List, ◌++◌}
use mathlib.Core.Bool.{true, not, ◌&&◌}
use native.Mathlib.Omega.{arith}
use lib.Dec.{eqb}
use lib.ListN.{length, take, drop, length-drop, take-append-drop}
use lib.Seq.{drop-drop, length-take-le}
use Rattle.wire.specs.Le.{le}
use Rattle.wire.specs.Table.{every}
use Rattle.wire.proofs.Bools.{and_left, and_right}
use Rattle.wire.proofs.Records.{length_records}
use Rattle.wire.proofs.Table.{every_at}
use Rattle.book.specs.Layout.{cell_ok, row_cell_ok, row_ok, event_ok, event_count, row_count, text_length, tables_ok, parts_ok, book_layout}
use Rattle.book.specs.Event.{events_in, rows_in, text_of}
use Rattle.book.proofs.Sound.{event_cell, sound_counts, laid_size}
use Rattle.effects.specs.Event.{event_of, events_of}
use Rattle.std.specs.Prelude.{Ok}

-- ---- a sound book's tables
abbrev pub event_bytes : List ℕ → List ℕ
event_bytes s = take (240 * event_count s) (events_in s)

abbrev pub row_bytes : List ℕ → List ℕ
row_bytes s = take (64 * row_count s) (rows_in s)

pub record Laid (s : List ℕ) : Type 0 where
  pub events : every (event_ok (row_count s) (text_length s)) 240 (event_count s) (events_in s) ≡ true
  pub rows : every (row_ok (row_count s) (text_length s)) 64 (row_count s) (rows_in s) ≡ true
  pub text : length (text_of s) ≡ text_length s
  pub event_size : length (event_bytes s) ≡ 240 * event_count s
  pub row_size : length (row_bytes s) ≡ 64 * row_count s
  pub event_split : events_in s ≡ event_bytes s ++ rows_in s
  pub row_split : rows_in s ≡ row_bytes s ++ text_of s

laid_parts : (s : List ℕ) → parts_ok s ≡ true → Laid s
unfolding parts_ok
laid_parts s h =
    let n = event_count s in
    let m = row_count s in
    let events = every (event_ok m (text_length s)) 240 n (events_in s) in
    let rows = every (row_ok m (text_length s)) 64 m (rows_in s) in
    let te = and_left (tables_ok s && events) rows h in
    let size = laid_size s (and_left (tables_ok s) events te) in
    let e : 240 * n ≤ length (events_in s) = rw length-drop (omega arith) in
    let r : 64 * m ≤ length (rows_in s) = rw length-drop (omega arith) in
    record {
      events = and_right (tables_ok s) events te;
      rows = and_right (tables_ok s && events) rows h;
      text = length-drop (24 + 240 * n + 64 * m) s ∙ omega arith;
      event_size = length-take-le (240 * n) (events_in s) e;
      row_size = length-take-le (64 * m) (rows_in s) r;
      event_split = sym (take-append-drop (240 * n) (events_in s)) ∙ ap (λ (l : List ℕ). event_bytes s ++ l) (drop-drop (240 * n) 24 s);
      row_split = sym (take-append-drop (64 * m) (rows_in s)) ∙ ap (λ (l : List ℕ). row_bytes s ++ l) (drop-drop (64 * m) (24 + 240 * n) s);
    }

pub laid : (s : List ℕ) → book_layout s ≡ (Ok tt) → Laid s
laid s h = laid_parts s (sound_counts s h).parts

pub text_length_lem : (s : List ℕ) → book_layout s ≡ (Ok tt) → length (text_of s) ≡ text_length s
text_length_lem s h = (laid s h).text

pub events_count : (s : List ℕ) → length (events_of s) ≡ event_count s
events_count s = length_records (event_of (rows_in s) (text_of s)) 240 (event_count s) (events_in s)

-- ---- each cell of a row and of an event passes
pub row_cell : (rows text : ℕ) (s : List ℕ) → row_cell_ok rows text s ≡ true → cell_ok rows text s ≡ true
unfolding row_cell_ok
row_cell rows text s ok = and_right (not (eqb (le 8 s) 6)) (cell_ok rows text s) ok

pub row_cell_at : (rows text : ℕ) (s : List ℕ) (i : ℕ) → row_ok rows text s ≡ true → i < 4 → cell_ok rows text (drop (16 * i) s) ≡ true
unfolding row_ok
row_cell_at rows text s i ok h = row_cell rows text (drop (16 * i) s) (every_at (row_cell_ok rows text) 16 4 s i ok h)

pub event_cell_at : (rows text : ℕ) (s : List ℕ) (i : ℕ) → event_ok rows text s ≡ true → i < 13 → cell_ok rows text (drop (32 + 16 * i) s) ≡ true
event_cell_at rows text s i ok h = rw (← drop-drop (16 * i) 32 s) (event_cell rows text s i ok h)

-- The join of two sound books, not too large, is a sound book: its counts, its tables, its text and its bytes. About no function.
-- Assumes nothing.
use Prim.Native.Nat.{ℕ, ◌+◌, ◌*◌, ◌^◌, ◌≤◌, ◌<◌}
use mathlib.Core.Path.{◌≡◌, sym, ap, ◌∙◌}
use mathlib.Core.List.{List, ◌++◌, append_assoc}
use mathlib.Core.Bool.{true, false}
use native.Mathlib.Omega.{arith}
use lib.ListN.{length, length-append}
use Rattle.wire.specs.Le.{bytes_of}
use Rattle.wire.specs.Table.{every}
use Rattle.wire.proofs.Written.{Bytes}
use Rattle.symbol.proofs.Text.{bytes_take, bytes_drop}
use Rattle.book.specs.Layout.{row_ok, event_ok, event_count, row_count, text_length, book_layout}
use Rattle.book.specs.Event.{events_in, rows_in, text_of}
use Rattle.join.specs.Join.{book_of, each, moved_row, moved_event, joined, joined_length, too_large}
use Rattle.join.proofs.Moves.{each_size, row_size_lem, event_size_lem}
use Rattle.join.proofs.BookOf.{within, ReadsAs, book_reads, book_sound}
use Rattle.sound_state.proofs.Tables.{every_take}
use Rattle.sound_state.proofs.Tabled.{event_bytes, row_bytes, Laid}
use Rattle.join.proofs.MovedTables.{bytes_append, bytes_number, every_near, every_append, every_more, every_moved, bytes_each}
use Rattle.join.proofs.MovedEvents.{row_near, row_more, bytes_row, row_ok_moved, event_near, event_more, bytes_event, event_ok_moved}
use Rattle.std.specs.Prelude.{Ok}

-- ---- the joined book's tables
abbrev pub added_events : List ℕ → List ℕ → ℕ → List ℕ
added_events a b k = each (moved_event (text_length a) (row_count a)) 240 k (events_in b)

abbrev pub added_rows : List ℕ → List ℕ → List ℕ
added_rows a b = each (moved_row (text_length a)) 64 (row_count b) (rows_in b)

module _ (a b : List ℕ) (k : ℕ) (la : Laid a) (lb : Laid b) where
  events_size : length (event_bytes a ++ added_events a b k) ≡ 240 * (event_count a + k)
  events_size =
      length-append (event_bytes a) (added_events a b k)
      ∙ omega (arith, la.event_size, each_size (moved_event (text_length a) (row_count a)) 240 (event_size_lem (text_length a) (row_count a)) k (events_in b))

  rows_size : length (row_bytes a ++ added_rows a b) ≡ 64 * (row_count a + row_count b)
  rows_size =
      length-append (row_bytes a) (added_rows a b)
      ∙ omega (arith, la.row_size, each_size (moved_row (text_length a)) 64 (row_size_lem (text_length a)) (row_count b) (rows_in b))

  text_size_lem : length (text_of a ++ text_of b) ≡ text_length a + text_length b
  text_size_lem = length-append (text_of a) (text_of b) ∙ omega (arith, la.text, lb.text)

  module _ (fits : too_large (joined_length a b k) (event_count a + k) (row_count a + row_count b) ≡ false) where
    below : 24 + 240 * (event_count a + k) + 64 * (row_count a + row_count b) + length (text_of a ++ text_of b) < 2 ^ 32
    below = let z = within (joined_length a b k) (event_count a + k) (row_count a + row_count b) fits in omega (arith, z.bytes, text_size_lem)

    joined_reads : ReadsAs (event_count a + k) (row_count a + row_count b) (event_bytes a ++ added_events a b k) (row_bytes a ++ added_rows a b)
        (text_of a ++ text_of b) (joined a b k)
    unfolding joined
    joined_reads =
        book_reads (event_count a + k) (row_count a + row_count b) (event_bytes a ++ added_events a b k) (row_bytes a ++ added_rows a b) (text_of a ++ text_of b)
        events_size rows_size below

    pub joined_count : event_count (joined a b k) ≡ event_count a + k
    joined_count = joined_reads.count

    pub joined_row_count : row_count (joined a b k) ≡ row_count a + row_count b
    joined_row_count = joined_reads.rows_count

    pub joined_text_lem : text_of (joined a b k) ≡ text_of a ++ text_of b
    joined_text_lem = joined_reads.whole_text

    pub joined_rows_lem : rows_in (joined a b k) ≡ row_bytes a ++ (added_rows a b ++ (text_of a ++ text_of b))
    joined_rows_lem = joined_reads.row_table ∙ append_assoc (row_bytes a) (added_rows a b) (text_of a ++ text_of b)

    pub joined_events_lem : events_in (joined a b k) ≡ event_bytes a ++ (added_events a b k ++ ((row_bytes a ++ added_rows a b) ++ (text_of a ++ text_of b)))
    joined_events_lem =
        joined_reads.event_table ∙ append_assoc (event_bytes a) (added_events a b k) ((row_bytes a ++ added_rows a b) ++ (text_of a ++ text_of b))

    -- ---- it is sound
    module _ (bytes : Bytes b) (most : k ≤ event_count b) where
      events_pass : every (event_ok (row_count a + row_count b) (length (text_of a ++ text_of b))) 240 (event_count a + k)
          ((event_bytes a ++ added_events a b k) ++ ((row_bytes a ++ added_rows a b) ++ (text_of a ++ text_of b))) ≡ true
      events_pass =
          let rest = (row_bytes a ++ added_rows a b) ++ (text_of a ++ text_of b) in
          let ok = event_ok (row_count a + row_count b) (text_length a + text_length b) in
          let near = event_near (row_count a + row_count b) (text_length a + text_length b) in
          let own : every (event_ok (row_count a) (text_length a)) 240 (event_count a) (event_bytes a) ≡ true =
          sym (every_near (event_ok (row_count a) (text_length a)) 240 (event_near (row_count a) (text_length a)) (event_count a) (event_bytes a) (rows_in a)
          (omega (arith, la.event_size)))
          ∙ ap (every (event_ok (row_count a) (text_length a)) 240 (event_count a)) (sym la.event_split)
          ∙ la.events in
          rw (text_size_lem, append_assoc (event_bytes a) (added_events a b k) rest)
          (every_append ok 240 near (event_count a) k (event_bytes a) (added_events a b k ++ rest) la.event_size
          (every_more (event_ok (row_count a) (text_length a)) 240 ok
          (λ (s : List ℕ). event_more (row_count a) (text_length a) (row_count a + row_count b) (text_length a + text_length b) s (omega arith) (omega arith))
          (event_count a) (event_bytes a) own)
          (every_moved (moved_event (text_length a) (row_count a)) 240 (event_size_lem (text_length a) (row_count a)) (event_ok (row_count b) (text_length b)) ok
          (event_ok_moved (row_count b) (text_length b) (row_count a + row_count b) (text_length a + text_length b) (text_length a) (row_count a)
          (omega (arith, below)) (omega (arith, below, text_size_lem)) (omega arith) (omega arith))
          k (events_in b) rest (bytes_drop 24 b bytes)
          (every_take (event_ok (row_count b) (text_length b)) 240 k (event_count b) (events_in b) most lb.events)))

      rows_pass : every (row_ok (row_count a + row_count b) (length (text_of a ++ text_of b))) 64 (row_count a + row_count b)
          ((row_bytes a ++ added_rows a b) ++ (text_of a ++ text_of b)) ≡ true
      rows_pass =
          let rest = text_of a ++ text_of b in
          let ok = row_ok (row_count a + row_count b) (text_length a + text_length b) in
          let near = row_near (row_count a + row_count b) (text_length a + text_length b) in
          let own : every (row_ok (row_count a) (text_length a)) 64 (row_count a) (row_bytes a) ≡ true =
          sym (every_near (row_ok (row_count a) (text_length a)) 64 (row_near (row_count a) (text_length a)) (row_count a) (row_bytes a) (text_of a)
          (omega (arith, la.row_size)))
          ∙ ap (every (row_ok (row_count a) (text_length a)) 64 (row_count a)) (sym la.row_split)
          ∙ la.rows in
          rw (text_size_lem, append_assoc (row_bytes a) (added_rows a b) rest)
          (every_append ok 64 near (row_count a) (row_count b) (row_bytes a) (added_rows a b ++ rest) la.row_size
          (every_more (row_ok (row_count a) (text_length a)) 64 ok
          (λ (s : List ℕ). row_more (row_count a) (text_length a) (row_count a + row_count b) (text_length a + text_length b) s (omega arith) (omega arith))
          (row_count a) (row_bytes a) own)
          (every_moved (moved_row (text_length a)) 64 (row_size_lem (text_length a)) (row_ok (row_count b) (text_length b)) ok
          (row_ok_moved (row_count b) (text_length b) (row_count a + row_count b) (text_length a + text_length b) (text_length a)
          (omega (arith, below)) (omega (arith, below, text_size_lem)) (omega arith) (omega arith))
          (row_count b) (rows_in b) rest (bytes_drop (24 + 240 * event_count b) b bytes) lb.rows))

      pub joined_sound : book_layout (joined a b k) ≡ (Ok tt)
      unfolding joined
      joined_sound =
          book_sound (event_count a + k) (row_count a + row_count b) (event_bytes a ++ added_events a b k) (row_bytes a ++ added_rows a b) (text_of a ++ text_of b)
          events_size rows_size below (rw text_size_lem fits) events_pass rows_pass

pub bytes_book : (n m : ℕ) (events rows text : List ℕ) → Bytes events → Bytes rows → Bytes text → Bytes (book_of n m events rows text)
unfolding book_of
bytes_book n m events rows text e r t =
    let number : (x : ℕ) → Bytes (bytes_of 4 x) = bytes_number 4 in
    bytes_append
    (bytes_append
    (bytes_append (bytes_append (bytes_append (bytes_append (number n) (number 24)) (number m)) (number (24 + 240 * n))) (number (length text)))
    (number (24 + 240 * n + 64 * m)))
    (bytes_append e (bytes_append r t))

pub bytes_joined : (a b : List ℕ) (k : ℕ) → Bytes a → Bytes b → Bytes (joined a b k)
unfolding joined
bytes_joined a b k p q =
    let d = text_length a in
    let n = row_count a in
    bytes_book (event_count a + k) (row_count a + row_count b) (event_bytes a ++ added_events a b k) (row_bytes a ++ added_rows a b) (text_of a ++ text_of b)
    (bytes_append (bytes_take (240 * event_count a) (events_in a) (bytes_drop 24 a p))
    (bytes_each (moved_event d n) 240 (event_size_lem d n) (bytes_event d n) k (events_in b)))
    (bytes_append (bytes_take (64 * n) (rows_in a) (bytes_drop (24 + 240 * event_count a) a p))
    (bytes_each (moved_row d) 64 (row_size_lem d) (bytes_row d) (row_count b) (rows_in b)))
    (bytes_append (bytes_drop (24 + 240 * event_count a + 64 * n) a p) (bytes_drop (24 + 240 * event_count b + 64 * row_count b) b q))

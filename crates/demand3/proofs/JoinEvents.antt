-- What recovery reads from a joined book: the events of A as they were, and the first k of B with their text references moved by A's text length.
-- About no function. Assumes nothing.
use Rattle.cell.specs.declared.ListRef.{ListRef}
use Rattle.std.specs.Prelude.{None, Option}
use Prim.Native.Nat.{ℕ, zero, suc, ◌+◌, ◌*◌, ◌-◌, ◌%◌, ◌/◌, ◌^◌, ◌≤◌, ◌<◌}
use mathlib.Core.Path.{◌≡◌, refl, sym, ap, ◌∙◌}
use mathlib.Core.List.{List, [], ◌∷◌, ◌++◌, map}
use mathlib.Core.Bool.{true, false}
use native.Mathlib.Nat.{add_comm, le_refl}
use native.Mathlib.Omega.{arith}
use lib.Dec.{lit<}
use lib.ListN.{length, take, drop, length-drop}
use lib.Seq.{drop-append-le, drop-append-add, take-append-le}
use borrow.Author.Tests.{leb-true}
use Rattle.wire.specs.Le.{le}
use Rattle.wire.specs.Table.{every, records}
use Rattle.wire.proofs.Numbers.{le_append, le_drop_append}
use Rattle.wire.proofs.Records.{records_append}
use Rattle.wire.proofs.Written.{Bytes}
use Rattle.symbol.proofs.Text.{bytes_drop}
use Rattle.cell.specs.Cell.{cell_by, cell_of, as_str, as_i64, as_f64, as_bool, as_array, text_in}
use Rattle.cell.specs.declared.TextRef.{TextRef}
use Rattle.cell.specs.declared.Cell.{Cell}
use Rattle.cell.specs.declared.Cell.TheVariants.{None, Int, Big, Float, Text, Truth, List as Rows}
use Rattle.book.specs.Layout.{cell_ok, row_ok, event_ok, payload_ok, event_count, row_count, text_length, book_layout}
use Rattle.book.specs.Event.{events_in, rows_in, text_of, name_in}
use Rattle.effects.specs.Event.{Event, Row, bytes_of_text, row_of, rows_of, event_of, events_of}
use Rattle.book.proofs.Sound.{ArrayIn, cell_array}
use Rattle.join.specs.Join.{each, moved_cell, moved_row, moved_event, joined, joined_length, too_large}
use Rattle.join.proofs.Moves.{cell_size, row_size_lem, event_size_lem}
use Rattle.join.proofs.BookOf.{within}
use Rattle.sound_state.proofs.Tables.{every_from, every_take}
use Rattle.sound_state.proofs.Tabled.{laid, event_bytes, row_bytes, row_cell_at, event_cell_at}
use Rattle.join.proofs.MovedTables.{records_near, records_take, records_same, records_moved, drop_each, each_at}
use Rattle.join.proofs.MovedCells.{cell_near, moved_value, cell_moved}
use Rattle.join.proofs.MovedEvents.{passed, first_moved, len_moved, mark_moved, number_moved, time_moved, cell_at}
use Rattle.demand3.proofs.JoinLayout.{added_events, added_rows, joined_count, joined_row_count, joined_text_lem, joined_rows_lem, joined_events_lem, joined_sound, bytes_joined}
use Rattle.std.specs.Prelude.{Some, Ok}

-- ---- text references moved by d bytes; names, symbols and lists are held by value already
abbrev pub moved_str : ℕ → Option TextRef → Option TextRef
moved_str d (Some r) = Some (record { first = r.first + d; len = r.len })
moved_str d None = None

abbrev pub moved_row_refs : ℕ → Row → Row
moved_row_refs d r = record { symbol = r.symbol; action = moved_str d r.action; amount = r.amount; price = r.price }

abbrev pub moved_list_refs : ℕ → Option (List Row) → Option (List Row)
moved_list_refs d None = None
moved_list_refs d (Some rs) = Some (map (moved_row_refs d) rs)

abbrev pub moved_refs : ℕ → Event → Event
moved_refs d e =
    record {
      checkpoint = e.checkpoint;
      number = e.number;
      time = e.time;
      symbol = e.symbol;
      action = moved_str d e.action;
      client = moved_str d e.client;
      shares = e.shares;
      limit = e.limit;
      id = e.id;
      reason = moved_str d e.reason;
      equity = e.equity;
      success = e.success;
      positions = moved_list_refs d e.positions;
      orders = moved_list_refs d e.orders;
    }

-- ---- a text in a text that has grown, after it and before it
pub text_kept : (t u : List ℕ) (r : TextRef) → r.first + r.len ≤ length t → text_in (t ++ u) r ≡ text_in t r
text_kept t u r h =
    let a : r.first ≤ length t = omega arith in
    let l : r.len ≤ length (drop r.first t) = rw length-drop (omega arith) in
    rw (drop-append-le r.first t u a, take-append-le r.len (drop r.first t) u l)

text_behind : (t u : List ℕ) (d first len : ℕ) → length t ≡ d → take len (drop (first + d) (t ++ u)) ≡ take len (drop first u)
text_behind t u d first len e = rw (← e, add_comm first (length t), drop-append-add t u first)

-- ---- a cell of A reads the same in the larger text
str_kept : (rows : ℕ) (t u : List ℕ) (k p : ℕ) → payload_ok rows (length t) k p ≡ true
    → bytes_of_text (t ++ u) (as_str (cell_by k p)) ≡ bytes_of_text t (as_str (cell_by k p))
unfolding payload_ok cell_by
str_kept rows t u zero p h = refl
str_kept rows t u (suc zero) p h = refl
str_kept rows t u (suc (suc zero)) p h = refl
str_kept rows t u (suc (suc (suc zero))) p h = refl
str_kept rows t u (suc (suc (suc (suc zero)))) p h =
    ap Some (text_kept t u (record { first = p % 2 ^ 32; len = p / 2 ^ 32 }) (leb-true (p % 2 ^ 32 + p / 2 ^ 32) (length t) h))
str_kept rows t u (suc (suc (suc (suc (suc zero))))) p h = refl
str_kept rows t u (suc (suc (suc (suc (suc (suc zero)))))) p h = refl
str_kept rows t u (suc (suc (suc (suc (suc (suc (suc k))))))) p h = refl

cell_str_kept : (rows : ℕ) (t u s : List ℕ) → cell_ok rows (length t) s ≡ true → bytes_of_text (t ++ u) (as_str (cell_of s)) ≡ bytes_of_text t (as_str (cell_of s))
unfolding cell_ok cell_of
cell_str_kept rows t u s h = str_kept rows t u (le 8 s) (le 8 (drop 8 s)) h

-- ---- what the readers give for a moved cell
abbrev moved_array : ℕ → Option ListRef → Option ListRef
moved_array d (Some l) = Some (record { first = l.first + d; count = l.count })
moved_array d None = None

record ReadMoved (dt dr : ℕ) (c : Cell) : Type 0 where
  str : as_str (moved_value dt dr c) ≡ moved_str dt (as_str c)
  i64 : as_i64 (moved_value dt dr c) ≡ as_i64 c
  f64 : as_f64 (moved_value dt dr c) ≡ as_f64 c
  bool : as_bool (moved_value dt dr c) ≡ as_bool c
  array : as_array (moved_value dt dr c) ≡ moved_array dr (as_array c)

read_moved : (dt dr : ℕ) (c : Cell) → ReadMoved dt dr c
read_moved dt dr None = record { str = refl; i64 = refl; f64 = refl; bool = refl; array = refl }
read_moved dt dr (Int z) = record { str = refl; i64 = refl; f64 = refl; bool = refl; array = refl }
read_moved dt dr (Big n) = record { str = refl; i64 = refl; f64 = refl; bool = refl; array = refl }
read_moved dt dr (Float x) = record { str = refl; i64 = refl; f64 = refl; bool = refl; array = refl }
read_moved dt dr (Text first len) = record { str = refl; i64 = refl; f64 = refl; bool = refl; array = refl }
read_moved dt dr (Truth b) = record { str = refl; i64 = refl; f64 = refl; bool = refl; array = refl }
read_moved dt dr (Rows first count) = record { str = refl; i64 = refl; f64 = refl; bool = refl; array = refl }

bytes_str : (t u : List ℕ) (d : ℕ) (a : (Option TextRef)) → length t ≡ d → bytes_of_text (t ++ u) (moved_str d a) ≡ bytes_of_text u a
bytes_str t u d (Some r) e = ap Some (text_behind t u d r.first r.len e)
bytes_str t u d None e = refl

-- ---- rows
row_of_near : (text s t : List ℕ) → 64 ≤ length s → row_of text (s ++ t) ≡ row_of text s
row_of_near text s t h =
    rw (cell_near 0 s t (omega arith), cell_near 16 s t (omega arith), cell_near 32 s t (omega arith), cell_near 48 s t (omega arith))

row_kept : (rows : ℕ) (t u s : List ℕ) → row_ok rows (length t) s ≡ true → row_of (t ++ u) s ≡ row_of t s
row_kept rows t u s ok = rw (cell_str_kept rows t u s (row_cell_at rows (length t) s 0 ok (lit< tt)))

module _ (rows d : ℕ) (t u : List ℕ) (e : length t ≡ d) (r : rows < 2 ^ 32) (l : length u + d < 2 ^ 32) where
  row_cell_read : (s v : List ℕ) → Bytes s → row_ok rows (length u) s ≡ true → (i : ℕ) → i < 4
      → cell_of (drop (16 * i) (moved_row d s ++ v)) ≡ moved_value d 0 (cell_of (drop (16 * i) s))
  unfolding moved_row
  row_cell_read s v b ok i h =
      let r0 : rows + 0 < 2 ^ 32 = omega arith in
      rw (each_at (moved_cell d 0) 16 (cell_size d 0) i 4 s v h)
      (cell_moved rows (length u) 0 d r0 l (drop (16 * i) s) _ (bytes_drop (16 * i) s b) (row_cell_at rows (length u) s i ok h))

  row_moved : (s v : List ℕ) → Bytes s → row_ok rows (length u) s ≡ true → row_of (t ++ u) (moved_row d s ++ v) ≡ moved_row_refs d (row_of u s)
  row_moved s v b ok =
      let c0 = row_cell_read s v b ok 0 (lit< tt) in
      let c1 = row_cell_read s v b ok 1 (lit< tt) in
      let c2 = row_cell_read s v b ok 2 (lit< tt) in
      let c3 = row_cell_read s v b ok 3 (lit< tt) in
      rw (
        c0,
        c1,
        c2,
        c3,
        (read_moved d 0 (cell_of s)).str,
        (read_moved d 0 (cell_of (drop 16 s))).str,
        (read_moved d 0 (cell_of (drop 32 s))).i64,
        (read_moved d 0 (cell_of (drop 48 s))).f64,
        bytes_str t u d (as_str (cell_of s)) e,
      )

-- ---- lists of rows
rows_kept : (n : ℕ) (rs x y t u : List ℕ) (a : (Option ListRef)) → length rs ≡ 64 * n → every (row_ok n (length t)) 64 n (rs ++ y) ≡ true → ArrayIn n a
    → rows_of (rs ++ x) (t ++ u) a ≡ rows_of (rs ++ y) t a
rows_kept n rs x y t u None size ok w = refl
rows_kept n rs x y t u (Some l) size ok w =
    let first = l.first in
    let count = l.count in
    let g = row_of (t ++ u) in
    let h : 64 * first ≤ length rs = omega arith in
    let m : 64 * count ≤ length (drop (64 * first) rs) = rw length-drop (omega arith) in
    ap Some
    (ap (records g 64 count) (drop-append-le (64 * first) rs x h)
    ∙ records_near g 64 (row_of_near (t ++ u)) count (drop (64 * first) rs) x m
    ∙ sym (records_near g 64 (row_of_near (t ++ u)) count (drop (64 * first) rs) y m)
    ∙ ap (records g 64 count) (sym (drop-append-le (64 * first) rs y h))
    ∙ records_same (row_ok n (length t)) 64 g (row_of t) (row_kept n t u) count (drop (64 * first) (rs ++ y))
    (every_from (row_ok n (length t)) 64 first count n (rs ++ y) w ok))

rows_moved : (n m d : ℕ) (ra rb x t u : List ℕ) (a : (Option ListRef)) → length ra ≡ 64 * n → length t ≡ d → m < 2 ^ 32 → length u + d < 2 ^ 32 → Bytes rb
    → every (row_ok m (length u)) 64 m rb ≡ true → ArrayIn m a
    → rows_of (ra ++ (each (moved_row d) 64 m rb ++ x)) (t ++ u) (moved_array n a) ≡ moved_list_refs d (rows_of rb u a)
rows_moved n m d ra rb x t u None size e r l b ok w = refl
rows_moved n m d ra rb x t u (Some a) size e r l b ok w =
    let first = a.first in
    let count = a.count in
    let q : 64 * (first + n) ≡ length ra + 64 * first = omega arith in
    let h : first ≤ m = omega arith in
    let k : count ≤ m - first = omega arith in
    ap Some
    (rw (q, drop-append-add ra (each (moved_row d) 64 m rb ++ x) (64 * first), drop_each (moved_row d) 64 (row_size_lem d) first m rb x h)
    (records_moved (moved_row d) 64 (row_size_lem d) (row_ok m (length u)) (row_of (t ++ u)) (row_of u) (moved_row_refs d) (row_moved m d t u e r l)
    count (m - first) (drop (64 * first) rb) x (bytes_drop (64 * first) rb b) k
    (every_from (row_ok m (length u)) 64 first count m rb w ok)))

-- ---- events
event_of_near : (rows text s t : List ℕ) → 240 ≤ length s → event_of rows text (s ++ t) ≡ event_of rows text s
event_of_near rows text s t h =
    rw (
      le_append 4 s t (omega arith),
      le_drop_append 4 4 s t (omega arith),
      le_drop_append 4 8 s t (omega arith),
      le_drop_append 8 16 s t (omega arith),
      le_drop_append 8 24 s t (omega arith),
      cell_near 32 s t (omega arith),
      cell_near 48 s t (omega arith),
      cell_near 64 s t (omega arith),
      cell_near 80 s t (omega arith),
      cell_near 96 s t (omega arith),
      cell_near 112 s t (omega arith),
      cell_near 128 s t (omega arith),
      cell_near 144 s t (omega arith),
      cell_near 160 s t (omega arith),
      cell_near 176 s t (omega arith),
      cell_near 192 s t (omega arith),
    )

-- an event of A over more rows and more text
event_kept : (n : ℕ) (rs x y t u : List ℕ) → length rs ≡ 64 * n → every (row_ok n (length t)) 64 n (rs ++ y) ≡ true
    → (s : List ℕ) → event_ok n (length t) s ≡ true → event_of (rs ++ x) (t ++ u) s ≡ event_of (rs ++ y) t s
event_kept n rs x y t u size rows_ok s ok =
    let name : name_in (t ++ u) s ≡ name_in t s = text_kept t u (record { first = le 4 s; len = le 4 (drop 4 s) }) (passed n (length t) s ok).name in
    let array : (i : ℕ) → i < 13 → ArrayIn n (as_array (cell_of (drop (32 + 16 * i) s))) =
    λ (i : ℕ) (h : i < 13). cell_array n (length t) (drop (32 + 16 * i) s) (event_cell_at n (length t) s i ok h) in
    rw (
      name,
      cell_str_kept n t u (drop 32 s) (event_cell_at n (length t) s 0 ok (lit< tt)),
      rows_kept n rs x y t u (as_array (cell_of (drop 176 s))) size rows_ok (array 9 (lit< tt)),
      rows_kept n rs x y t u (as_array (cell_of (drop 192 s))) size rows_ok (array 10 (lit< tt)),
    )

-- an event of B, moved
module _ (n m d : ℕ) (ra rb x t u : List ℕ) (size : length ra ≡ 64 * n) (e : length t ≡ d) (r : m + n < 2 ^ 32) (l : length u + d < 2 ^ 32) (b : Bytes rb)
    (rows_ok : every (row_ok m (length u)) 64 m rb ≡ true) where
  event_moved : (s v : List ℕ) → Bytes s → event_ok m (length u) s ≡ true
      → event_of (ra ++ (each (moved_row d) 64 m rb ++ x)) (t ++ u) (moved_event d n s ++ v) ≡ moved_refs d (event_of rb u s)
  event_moved s v sb ok =
      let p = (passed m (length u) s ok).name in
      let first : le 4 s + d < 2 ^ 32 = omega arith in
      let m32 : m < 2 ^ 32 = omega arith in
      let name : take (le 4 (drop 4 s)) (drop (le 4 s + d) (t ++ u)) ≡ name_in u s = text_behind t u d (le 4 s) (le 4 (drop 4 s)) e in
      let cell : (i : ℕ) → i < 13 → cell_of (drop (32 + 16 * i) (moved_event d n s ++ v)) ≡ moved_value d n (cell_of (drop (32 + 16 * i) s)) =
      λ (i : ℕ) (h : i < 13).
      ap cell_of (cell_at d n s v sb i h)
      ∙ cell_moved m (length u) n d r l (drop (32 + 16 * i) s) (each (moved_cell d n) 16 (13 - suc i) (drop 16 (drop (16 * i) (drop 32 s))) ++ v)
      (bytes_drop (32 + 16 * i) s sb) (event_cell_at m (length u) s i ok h) in
      let read : (k : ℕ) → ReadMoved d n (cell_of (drop k s)) = λ (k : ℕ). read_moved d n (cell_of (drop k s)) in
      let list : (i : ℕ) → i < 13
      → rows_of (ra ++ (each (moved_row d) 64 m rb ++ x)) (t ++ u) (moved_array n (as_array (cell_of (drop (32 + 16 * i) s))))
      ≡ moved_list_refs d (rows_of rb u (as_array (cell_of (drop (32 + 16 * i) s)))) =
      λ (i : ℕ) (h : i < 13).
      rows_moved n m d ra rb x t u (as_array (cell_of (drop (32 + 16 * i) s))) size e m32 l b rows_ok
      (cell_array m (length u) (drop (32 + 16 * i) s) (event_cell_at m (length u) s i ok h)) in
      rw (
        first_moved d n s v sb first,
        len_moved d n s v sb,
        mark_moved d n s v sb,
        number_moved d n s v sb,
        time_moved d n s v sb,
        cell 0 (lit< tt),
        cell 1 (lit< tt),
        cell 2 (lit< tt),
        cell 3 (lit< tt),
        cell 4 (lit< tt),
        cell 5 (lit< tt),
        cell 6 (lit< tt),
        cell 7 (lit< tt),
        cell 8 (lit< tt),
        cell 9 (lit< tt),
        cell 10 (lit< tt),
        name,
        (read 32).str,
        (read 48).str,
        (read 64).str,
        (read 80).i64,
        (read 96).f64,
        (read 112).i64,
        (read 128).str,
        (read 144).f64,
        (read 160).bool,
        (read 176).array,
        (read 192).array,
        bytes_str t u d (as_str (cell_of (drop 32 s))) e,
        list 9 (lit< tt),
        list 10 (lit< tt),
      )

take_map : {A B : Type 0} (h : A → B) (k : ℕ) (xs : List A) → map h (take k xs) ≡ take k (map h xs)
take_map h zero xs = refl
take_map h (suc k) [] = refl
take_map {B = B} h (suc k) (x ∷ xs) = ap (λ (r : List B). h x ∷ r) (take_map h k xs)

-- ---- the joined book, where neither book is refused and the join is not too large
pub record JoinedBook (a b : List ℕ) (k : ℕ) : Type 0 where
  pub layout : book_layout (joined a b k) ≡ (Ok tt)
  pub count : event_count (joined a b k) ≡ event_count a + k
  pub rows : row_count (joined a b k) ≡ row_count a + row_count b
  pub text : text_of (joined a b k) ≡ text_of a ++ text_of b
  pub events : events_of (joined a b k) ≡ events_of a ++ take k (map (moved_refs (text_length a)) (events_of b))
  pub bytes : Bytes (joined a b k)

module _ (a b : List ℕ) (k : ℕ) (sa : book_layout a ≡ (Ok tt)) (sb : book_layout b ≡ (Ok tt)) (bytes : Bytes b) (most : k ≤ event_count b)
    (fits : too_large (joined_length a b k) (event_count a + k) (row_count a + row_count b) ≡ false) where
  events_kept : (x : List ℕ) → records (event_of (row_bytes a ++ x) (text_of a ++ text_of b)) 240 (event_count a) (event_bytes a) ≡ events_of a
  events_kept x =
      let la = laid a sa in
      let g = event_of (row_bytes a ++ x) (text_of a ++ text_of b) in
      let size : 240 * event_count a ≤ length (event_bytes a) = omega (arith, la.event_size) in
      let rows : every (row_ok (row_count a) (length (text_of a))) 64 (row_count a) (row_bytes a ++ text_of a) ≡ true =
      rw (la.text, ← la.row_split) la.rows in
      let events : every (event_ok (row_count a) (length (text_of a))) 240 (event_count a) (events_in a) ≡ true = rw la.text la.events in
      sym (records_near g 240 (event_of_near (row_bytes a ++ x) (text_of a ++ text_of b)) (event_count a) (event_bytes a) (rows_in a) size)
      ∙ ap (records g 240 (event_count a)) (sym la.event_split)
      ∙ records_same (event_ok (row_count a) (length (text_of a))) 240 g (event_of (row_bytes a ++ text_of a) (text_of a))
      (event_kept (row_count a) (row_bytes a) x (text_of a) (text_of a) (text_of b) la.row_size rows)
      (event_count a) (events_in a) events
      ∙ ap (λ (r : List ℕ). records (event_of r (text_of a)) 240 (event_count a) (events_in a)) (sym la.row_split)

  events_moved : (x rest : List ℕ) → records (event_of (row_bytes a ++ (added_rows a b ++ x)) (text_of a ++ text_of b)) 240 k (added_events a b k ++ rest)
      ≡ take k (map (moved_refs (text_length a)) (events_of b))
  events_moved x rest =
      let la = laid a sa in
      let lb = laid b sb in
      let z = (within (joined_length a b k) (event_count a + k) (row_count a + row_count b) fits).bytes in
      let n = row_count a in
      let m = row_count b in
      let d = text_length a in
      let r : m + n < 2 ^ 32 = omega arith in
      let l : length (text_of b) + d < 2 ^ 32 = omega (arith, lb.text) in
      let rows : every (row_ok m (length (text_of b))) 64 m (rows_in b) ≡ true = rw lb.text lb.rows in
      let events : every (event_ok m (length (text_of b))) 240 k (events_in b) ≡ true =
      every_take (event_ok m (length (text_of b))) 240 k (event_count b) (events_in b) most (rw lb.text lb.events) in
      records_moved (moved_event d n) 240 (event_size_lem d n) (event_ok m (length (text_of b)))
      (event_of (row_bytes a ++ (added_rows a b ++ x)) (text_of a ++ text_of b)) (event_of (rows_in b) (text_of b)) (moved_refs d)
      (event_moved n m d (row_bytes a) (rows_in b) x (text_of a) (text_of b) la.row_size la.text r l (bytes_drop (24 + 240 * event_count b) b bytes) rows)
      k k (events_in b) rest (bytes_drop 24 b bytes) (le_refl k) events
      ∙ ap (map (moved_refs d)) (records_take (event_of (rows_in b) (text_of b)) 240 k (event_count b) (events_in b) most)
      ∙ take_map (moved_refs d) k (events_of b)

  events_joined : events_of (joined a b k) ≡ events_of a ++ take k (map (moved_refs (text_length a)) (events_of b))
  events_joined =
      let la = laid a sa in
      let lb = laid b sb in
      let text = text_of a ++ text_of b in
      let rows = row_bytes a ++ (added_rows a b ++ text) in
      let rest = (row_bytes a ++ added_rows a b) ++ text in
      let g = event_of rows text in
      rw (joined_rows_lem a b k la lb fits, joined_text_lem a b k la lb fits, joined_events_lem a b k la lb fits, joined_count a b k la lb fits)
      (records_append g 240 (event_of_near rows text) (event_count a) k (event_bytes a) (added_events a b k ++ rest) la.event_size
      ∙ ap (λ (es : List Event). es ++ records g 240 k (added_events a b k ++ rest)) (events_kept (added_rows a b ++ text))
      ∙ ap (λ (es : List Event). events_of a ++ es) (events_moved text rest))

  -- The joined book is sound. Its events are A's, as they were, and the first k of B's, whose text references are moved by A's text length;
  -- its text is A's and B's after it.
  pub joined_book : Bytes a → JoinedBook a b k
  joined_book p =
      let la = laid a sa in
      let lb = laid b sb in
      record {
        layout = joined_sound a b k la lb fits bytes most;
        count = joined_count a b k la lb fits;
        rows = joined_row_count a b k la lb fits;
        text = joined_text_lem a b k la lb fits;
        events = events_joined;
        bytes = bytes_joined a b k p bytes;
      }

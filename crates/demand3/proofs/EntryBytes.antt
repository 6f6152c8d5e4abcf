-- An entry's bytes: what they are read as, and that they pass the layout of a book whose text holds the entry's. About no function.
-- Assumes nothing.
use Rattle.types.specs.declared.order.OrderId.{OrderId}
use Rattle.std.specs.Prelude.{None}
use Prim.Native.Nat.{ℕ, ◌+◌, ◌*◌, ◌%◌, ◌/◌, ◌^◌, ◌≤◌, ◌<◌}
use mathlib.Core.Path.{◌≡◌, refl, sym, ap, ◌∙◌}
use mathlib.Core.List.{List, [], ◌++◌, append_assoc, append-nil}
use mathlib.Core.Bool.{Bool, true, false, cond, ◌&&◌}
use native.Mathlib.Omega.{arith}
use lib.Dec.{ltb, lit<}
use lib.IntN.{ℤ, pos, negsuc}
use lib.ListN.{length, take, drop, length-append}
use lib.Seq.{take_at, drop_at}
use lib.Signed.{le_z}
use borrow.Author.Tests.{leb-true, le-leb, ltb-false}
use mir.Syntax.{w64}
use mir.Val.{to_z, of_z}
use mir.ValLaws.{to_z-of_z}
use Rattle.wire.specs.Le.{le, bytes_of, same_bytes}
use Rattle.wire.specs.Table.{every}
use Rattle.wire.specs.Layout.{sound_if}
use Rattle.wire.proofs.Written.{Bytes, le_bytes_of}
use Rattle.symbol.specs.declared.Symbol.{Symbol}
use Rattle.wire.proofs.Bools.{and_right}
use Rattle.cell.specs.Cell.{cell_by, cell_of, as_str, as_i64}
use Rattle.cell.specs.declared.Cell.TheVariants.{None}
use Rattle.book.specs.Layout.{latest, payload_ok, cell_ok, window_ok, event_ok}
use Rattle.checkpoint.specs.Checkpoint.{event_name, checkpoints, named_among, named}
use Rattle.effects.specs.Event.{bytes_of_text, event_of}
use Rattle.intents.specs.Intents.{symbol_text, entry_name, reason_text, entry_text, cell_bytes, no_cell, id_cell_bytes, reason_cell_bytes, entry_bytes}
use Rattle.book.specs.Time.{time_layout}
use Rattle.demand3.proofs.Entries.{Texted, entry_checkpoint, entry_id, entry_reason, entry_event}
use Rattle.sound_state.proofs.Tables.{and_both}
use Rattle.join.proofs.MovedTables.{bytes_append, bytes_number}
use Rattle.join.proofs.MovedEvents.{passes}
use Rattle.std.specs.Prelude.{Some, Ok, Option}

-- ---- a cell that was written
module _ (k p : ℕ) (t : List ℕ) (hk : k < 2 ^ 64) (hp : p < 2 ^ 64) where
  kind_written : le 8 (cell_bytes k p ++ t) ≡ k
  unfolding bytes_of
  kind_written = le_bytes_of 8 k _ hk

  payload_written : le 8 (drop 8 (cell_bytes k p ++ t)) ≡ p
  unfolding bytes_of
  payload_written = le_bytes_of 8 p t hp

  cell_written : cell_of (cell_bytes k p ++ t) ≡ cell_by k p
  unfolding cell_of
  cell_written = rw (kind_written, payload_written)

  cell_passes : (rows text : ℕ) → payload_ok rows text k p ≡ true → cell_ok rows text (cell_bytes k p ++ t) ≡ true
  unfolding cell_ok
  cell_passes rows text h = rw (kind_written, payload_written) h

no_cell_ok : (rows text : ℕ) (t : List ℕ) → cell_ok rows text (no_cell ++ t) ≡ true
unfolding payload_ok
no_cell_ok rows text t = cell_passes 0 0 t (lit< tt) (lit< tt) rows text refl

truth_cell : (rows text : ℕ) (t : List ℕ) → cell_ok rows text (cell_bytes 5 1 ++ t) ≡ true
unfolding payload_ok
truth_cell rows text t = cell_passes 5 1 t (lit< tt) (lit< tt) rows text refl

-- ---- an event with a symbol, an ibkr_id and a reason cell, reconciled, by the kinds and payloads of these
unfoldable event_with : ℕ → ℕ → ℕ → ℕ → ℕ → ℕ → ℕ → ℕ → ℕ → ℕ → List ℕ
event_with first len number time k0 p0 k5 p5 k6 p6 =
    bytes_of 4 first ++ bytes_of 4 len ++ bytes_of 4 1 ++ bytes_of 4 0 ++ bytes_of 8 number ++ bytes_of 8 time ++ cell_bytes k0 p0 ++ no_cell ++ no_cell
    ++ no_cell ++ no_cell ++ cell_bytes k5 p5 ++ cell_bytes k6 p6 ++ no_cell ++ no_cell ++ no_cell ++ no_cell ++ no_cell ++ cell_bytes 5 1

abbrev id_kind : Option OrderId → ℕ
id_kind (Some id) = cond (ltb id.0 (2 ^ 63)) 1 2
id_kind None = 0

abbrev id_payload : Option OrderId → ℕ
id_payload (Some id) = id.0
id_payload None = 0

abbrev reason_kind : Option OrderId → ℕ
reason_kind (Some id) = 0
reason_kind None = 4

abbrev reason_payload : Option OrderId → ℕ → ℕ
reason_payload (Some id) first = 0
reason_payload None first = first + 2 ^ 32 * length (reason_text None)

cond_cell : (t : Bool) (x : ℕ) → cond t (cell_bytes 1 x) (cell_bytes 2 x) ≡ cell_bytes (cond t 1 2) x
cond_cell true x = refl
cond_cell false x = refl

id_plain : (c : (Option OrderId)) → id_cell_bytes c ≡ cell_bytes (id_kind c) (id_payload c)
id_plain (Some id) = cond_cell (ltb id.0 (2 ^ 63)) id.0
id_plain None = refl

reason_plain : (c : (Option OrderId)) (first : ℕ) → reason_cell_bytes c first ≡ cell_bytes (reason_kind c) (reason_payload c first)
reason_plain (Some id) first = refl
reason_plain None first = refl

entry_plain : (c : (Option OrderId)) (time : ℤ) (number first : ℕ) (y : Symbol) → entry_bytes c time number first y
    ≡ event_with first (length (entry_name c)) number (of_z w64 time) 4 (first + length (entry_name c) + 2 ^ 32 * y.len) (id_kind c) (id_payload c)
    (reason_kind c) (reason_payload c (first + length (entry_name c) + y.len))
unfolding entry_bytes event_with
entry_plain c time number first y = rw (id_plain c, reason_plain c (first + length (entry_name c) + y.len))

module _ (first len number time k0 p0 k5 p5 k6 p6 : ℕ) where
  module _ (t : List ℕ) (f : first < 2 ^ 32) (l : len < 2 ^ 32) (n : number < 2 ^ 64) (m : time < 2 ^ 64)
      (s0 : p0 < 2 ^ 64) (s5 : p5 < 2 ^ 64) (s6 : p6 < 2 ^ 64)
      (h0 : k0 < 2 ^ 64) (h5 : k5 < 2 ^ 64) (h6 : k6 < 2 ^ 64) where
    abbrev bytes : List ℕ
    bytes = event_with first len number time k0 p0 k5 p5 k6 p6 ++ t

    first_at : le 4 bytes ≡ first
    unfolding event_with bytes_of
    first_at = le_bytes_of 4 first _ f

    len_at : le 4 (drop 4 bytes) ≡ len
    unfolding event_with bytes_of
    len_at = le_bytes_of 4 len _ l

    mark_at : le 4 (drop 8 bytes) ≡ 1
    unfolding event_with bytes_of
    mark_at = le_bytes_of 4 1 _ (lit< tt)

    pad_at : le 4 (drop 12 bytes) ≡ 0
    unfolding event_with bytes_of
    pad_at = le_bytes_of 4 0 _ (lit< tt)

    number_at : le 8 (drop 16 bytes) ≡ number
    unfolding event_with bytes_of
    number_at = le_bytes_of 8 number _ n

    time_at : le 8 (drop 24 bytes) ≡ time
    unfolding event_with bytes_of
    time_at = le_bytes_of 8 time _ m

    symbol_at_lem : cell_of (drop 32 bytes) ≡ cell_by k0 p0
    unfolding event_with bytes_of
    symbol_at_lem = cell_written k0 p0 _ h0 s0

    id_at : cell_of (drop 112 bytes) ≡ cell_by k5 p5
    unfolding event_with bytes_of
    id_at = cell_written k5 p5 _ h5 s5

    reason_at : cell_of (drop 128 bytes) ≡ cell_by k6 p6
    unfolding event_with bytes_of
    reason_at = cell_written k6 p6 _ h6 s6

    none_at : (cell_of (drop 48 bytes) ≡ None) × (cell_of (drop 64 bytes) ≡ None) × (cell_of (drop 80 bytes) ≡ None) × (cell_of (drop 96 bytes) ≡ None)
        × (cell_of (drop 144 bytes) ≡ None) × (cell_of (drop 160 bytes) ≡ None) × (cell_of (drop 176 bytes) ≡ None) × (cell_of (drop 192 bytes) ≡ None)
    unfolding event_with bytes_of cell_of cell_by le
    none_at = (refl, refl, refl, refl, refl, refl, refl, refl)

    window_at : window_ok (drop 208 bytes) ≡ true
    unfolding event_with bytes_of window_ok le
    window_at = refl

    cells_pass : (rows text : ℕ) → payload_ok rows text k0 p0 ≡ true → payload_ok rows text k5 p5 ≡ true → payload_ok rows text k6 p6 ≡ true
        → every (cell_ok rows text) 16 13 (drop 32 bytes) ≡ true
    unfolding event_with bytes_of every
    cells_pass rows text o0 o5 o6 =
        and_both (cell_passes k0 p0 _ h0 s0 rows text o0)
        (and_both (no_cell_ok rows text _)
        (and_both (no_cell_ok rows text _)
        (and_both (no_cell_ok rows text _)
        (and_both (no_cell_ok rows text _)
        (and_both (cell_passes k5 p5 _ h5 s5 rows text o5)
        (and_both (cell_passes k6 p6 _ h6 s6 rows text o6)
        (and_both (no_cell_ok rows text _)
        (and_both (no_cell_ok rows text _)
        (and_both (no_cell_ok rows text _)
        (and_both (no_cell_ok rows text _)
        (and_both (no_cell_ok rows text _) (and_both (truth_cell rows text _) refl))))))))))))

    -- what it is read as, and that it passes
    with_read : (rows text : List ℕ) → event_of rows text bytes
        ≡ record {
          checkpoint = named (take len (drop first text));
          number = Some number;
          time = to_z w64 time;
          symbol = bytes_of_text text (as_str (cell_by k0 p0));
          action = None;
          client = None;
          shares = None;
          limit = None;
          id = as_i64 (cell_by k5 p5);
          reason = as_str (cell_by k6 p6);
          equity = None;
          success = None;
          positions = None;
          orders = None;
        }
    with_read rows text =
        let z = none_at in
        rw (
          first_at,
          len_at,
          mark_at,
          number_at,
          time_at,
          symbol_at_lem,
          id_at,
          reason_at,
          z.0,
          z.1,
          z.2,
          z.3,
          z.4,
          z.5,
          z.6,
          z.7,
        )

    with_passes : (rows text : ℕ) → first + len ≤ text → time ≤ latest → payload_ok rows text k0 p0 ≡ true → payload_ok rows text k5 p5 ≡ true
        → payload_ok rows text k6 p6 ≡ true → event_ok rows text bytes ≡ true
    with_passes rows text name late o0 o5 o6 =
        passes rows text bytes
        (record {
          name = rw (first_at, len_at) name;
          head = (rw pad_at, rw mark_at, rw mark_at);
          time = rw time_at late;
          window = window_at;
          cells = cells_pass rows text o0 o5 o6;
        })

-- ---- a time of an event's range, and its bits
sound_true : (b : Bool) → sound_if b ≡ (Ok tt) → b ≡ true
sound_true true h = refl
sound_true false h = let z : ◌≡◌ {A = ℕ} 0 1 = cc in absurd (omega arith)

pub record TimeBits (time : ℤ) : Type 0 where
  pub most : of_z w64 time ≤ latest
  pub back : to_z w64 (of_z w64 time) ≡ time

pub time_bits : (time : ℤ) → time_layout time ≡ (Ok tt) → TimeBits time
time_bits (pos n) h =
    let b = sound_true (le_z (pos 0) (pos n) && le_z (pos n) (pos latest)) h in
    let l : n ≤ latest = leb-true n latest (and_right (le_z (pos 0) (pos n)) (le_z (pos n) (pos latest)) b) in
    let s : n < 2 ^ 63 = omega arith in
    record { most = l; back = to_z-of_z w64 (pos n) (record { sfits = s }) }
time_bits (negsuc n) h = let z : ◌≡◌ {A = ℕ} 0 1 = cc in absurd (omega arith)

-- ---- a chosen id is a u64
abbrev pub IdFits : Option OrderId → Type 0
IdFits (Some id) = id.0 < 2 ^ 64
IdFits None = Unit

id_small : (c : (Option OrderId)) → IdFits c → id_payload c < 2 ^ 64
id_small (Some id) h = h
id_small None h = lit< tt

cond_small : (t : Bool) → cond t 1 2 < 2 ^ 64
cond_small true = lit< tt
cond_small false = lit< tt

kind_small : (c : (Option OrderId)) → id_kind c < 2 ^ 64
kind_small (Some id) = cond_small (ltb id.0 (2 ^ 63))
kind_small None = lit< tt

big_if : (t : Bool) (rows text x : ℕ) → (t ≡ false → 2 ^ 63 ≤ x) → payload_ok rows text (cond t 1 2) x ≡ true
unfolding payload_ok
big_if true rows text x h = refl
big_if false rows text x h = le-leb (2 ^ 63) x (h refl)

id_payload_ok : (c : (Option OrderId)) (rows text : ℕ) → payload_ok rows text (id_kind c) (id_payload c) ≡ true
unfolding payload_ok
id_payload_ok (Some id) rows text = big_if (ltb id.0 (2 ^ 63)) rows text id.0 (ltb-false id.0 (2 ^ 63))
id_payload_ok None rows text = refl

-- ---- a text reference as a payload
module _ (first len : ℕ) (f : first < 2 ^ 32) where
  ref_first : (first + 2 ^ 32 * len) % 2 ^ 32 ≡ first
  ref_first = omega arith

  ref_len : (first + 2 ^ 32 * len) / 2 ^ 32 ≡ len
  ref_len = omega arith

  ref_ok : (rows text : ℕ) → first + len ≤ text → payload_ok rows text 4 (first + 2 ^ 32 * len) ≡ true
  unfolding payload_ok
  ref_ok rows text h = rw (ref_first, ref_len) (le-leb (first + len) text h)

  ref_str : as_str (cell_by 4 (first + 2 ^ 32 * len)) ≡ Some (record { first = first; len = len })
  unfolding cell_by
  ref_str = rw (ref_first, ref_len)

-- ---- the parts of an entry's text
part_mid : (o l : ℕ) (p x q t : List ℕ) → t ≡ p ++ (x ++ q) → length p ≡ o → length x ≡ l → take l (drop o t) ≡ x
part_mid o l p x q t e f g = rw (e, drop_at p (x ++ q) o f, take_at x q l g)

module _ (c : (Option OrderId)) (y : Symbol) (texted : Texted y) where
  pub length_text : length (entry_text c y) ≡ length (entry_name c) + y.len + length (reason_text c)
  unfolding entry_text
  length_text = length-append (entry_name c) (symbol_text y ++ reason_text c) ∙ omega (arith, length-append (symbol_text y) (reason_text c), texted.len)

  module _ (p q text : List ℕ) (split : text ≡ p ++ (entry_text c y ++ q)) where
    name_in : take (length (entry_name c)) (drop (length p) text) ≡ entry_name c
    unfolding entry_text
    name_in = part_mid (length p) (length (entry_name c)) p (entry_name c) ((symbol_text y ++ reason_text c) ++ q) text (split ∙ simp append_assoc) refl refl

    symbol_in : take y.len (drop (length p + length (entry_name c)) text) ≡ symbol_text y
    unfolding entry_text
    symbol_in =
        part_mid (length p + length (entry_name c)) y.len (p ++ entry_name c) (symbol_text y) (reason_text c ++ q) text (split ∙ simp append_assoc)
        (length-append p (entry_name c)) texted.len

    pub reason_in : take (length (reason_text c)) (drop (length p + length (entry_name c) + y.len) text) ≡ reason_text c
    unfolding entry_text
    reason_in =
        part_mid (length p + length (entry_name c) + y.len) (length (reason_text c)) (p ++ (entry_name c ++ symbol_text y)) (reason_text c) q text
        (split ∙ simp append_assoc)
        (length-append p (entry_name c ++ symbol_text y) ∙ omega (arith, length-append (entry_name c) (symbol_text y), texted.len)) refl

    text_in : length p + length (entry_name c) + y.len + length (reason_text c) ≤ length text
    text_in = omega (arith, ap length split, length-append p (entry_text c y ++ q), length-append (entry_text c y) q, length_text)

-- ---- the reason, the id and the name of an entry
reason_small : (c : (Option OrderId)) (first : ℕ) → first < 2 ^ 32 → reason_payload c first < 2 ^ 64
reason_small (Some id) first h = lit< tt
reason_small None first h = omega arith

reason_kind_small : (c : (Option OrderId)) → reason_kind c < 2 ^ 64
reason_kind_small (Some id) = lit< tt
reason_kind_small None = lit< tt

reason_ok : (c : (Option OrderId)) (first rows text : ℕ) → first < 2 ^ 32 → first + length (reason_text c) ≤ text
    → payload_ok rows text (reason_kind c) (reason_payload c first) ≡ true
unfolding payload_ok
reason_ok (Some id) first rows text f h = refl
reason_ok None first rows text f h = ref_ok first (length (reason_text None)) f rows text h

reason_str : (c : (Option OrderId)) (first : ℕ) → first < 2 ^ 32 → as_str (cell_by (reason_kind c) (reason_payload c first)) ≡ entry_reason c first
unfolding cell_by
reason_str (Some id) first f = refl
reason_str None first f = ref_str first (length (reason_text None)) f

id_back : (c : (Option OrderId)) → IdFits c → as_i64 (cell_by (id_kind c) (id_payload c)) ≡ entry_id c
id_back c h =
    sym
    (ap (λ (s : List ℕ). as_i64 (cell_of s)) (id_plain c ∙ sym (append-nil (cell_bytes (id_kind c) (id_payload c))))
    ∙ ap as_i64 (cell_written (id_kind c) (id_payload c) [] (kind_small c) (id_small c h)))

name_back : (c : (Option OrderId)) → named (entry_name c) ≡ Some (entry_checkpoint c)
unfolding named named_among checkpoints event_name same_bytes
name_back (Some id) = refl
name_back None = refl

-- ---- an entry whose text stands after p in the book's
module _ (c : (Option OrderId)) (time : ℤ) (number : ℕ) (y : Symbol) (texted : Texted y) (p q text : List ℕ) (split : text ≡ p ++ (entry_text c y ++ q))
    (fits : length text < 2 ^ 32) (id : IdFits c) (small : number < 2 ^ 64) (valid : time_layout time ≡ (Ok tt)) (t : List ℕ) where
  module _ (inside : length p + length (entry_name c) + y.len + length (reason_text c) ≤ length text) (late : of_z w64 time ≤ latest) where
    symbol_first : length p + length (entry_name c) < 2 ^ 32
    symbol_first = omega arith

    reason_first : length p + length (entry_name c) + y.len < 2 ^ 32
    reason_first = omega arith

    entry_with : (rows : List ℕ) → event_of rows text (entry_bytes c time number (length p) y ++ t)
        ≡ record {
          checkpoint = named (take (length (entry_name c)) (drop (length p) text));
          number = Some number;
          time = to_z w64 (of_z w64 time);
          symbol = bytes_of_text text (as_str (cell_by 4 (length p + length (entry_name c) + 2 ^ 32 * y.len)));
          action = None;
          client = None;
          shares = None;
          limit = None;
          id = as_i64 (cell_by (id_kind c) (id_payload c));
          reason = as_str (cell_by (reason_kind c) (reason_payload c (length p + length (entry_name c) + y.len)));
          equity = None;
          success = None;
          positions = None;
          orders = None;
        }
    entry_with rows =
        ap (λ (s : List ℕ). event_of rows text (s ++ t)) (entry_plain c time number (length p) y)
        ∙ with_read (length p) (length (entry_name c)) number (of_z w64 time) 4 (length p + length (entry_name c) + 2 ^ 32 * y.len) (id_kind c) (id_payload c)
        (reason_kind c) (reason_payload c (length p + length (entry_name c) + y.len)) t (omega arith) (omega arith) small (omega arith) (omega arith)
        (id_small c id) (reason_small c (length p + length (entry_name c) + y.len) reason_first) (lit< tt) (kind_small c) (reason_kind_small c) rows text

    with_pass : (rows : ℕ) → event_ok rows (length text) (entry_bytes c time number (length p) y ++ t) ≡ true
    with_pass rows =
        ap (λ (s : List ℕ). event_ok rows (length text) (s ++ t)) (entry_plain c time number (length p) y)
        ∙ with_passes (length p) (length (entry_name c)) number (of_z w64 time) 4 (length p + length (entry_name c) + 2 ^ 32 * y.len) (id_kind c) (id_payload c)
        (reason_kind c) (reason_payload c (length p + length (entry_name c) + y.len)) t (omega arith) (omega arith) small (omega arith) (omega arith)
        (id_small c id) (reason_small c (length p + length (entry_name c) + y.len) reason_first) (lit< tt) (kind_small c) (reason_kind_small c)
        rows (length text) (omega arith) late
        (ref_ok (length p + length (entry_name c)) y.len symbol_first rows (length text) (omega arith))
        (id_payload_ok c rows (length text))
        (reason_ok c (length p + length (entry_name c) + y.len) rows (length text) reason_first inside)

  pub entry_read : (rows : List ℕ) → event_of rows text (entry_bytes c time number (length p) y ++ t) ≡ entry_event c time number (length p) y
  entry_read rows =
      let inside = text_in c y texted p q text split in
      let z = time_bits time valid in
      entry_with inside z.most rows
      ∙ rw (
        name_in c y texted p q text split,
        name_back c,
        z.back,
        ref_str (length p + length (entry_name c)) y.len (symbol_first inside z.most),
        symbol_in c y texted p q text split,
        id_back c id,
        reason_str c (length p + length (entry_name c) + y.len) (reason_first inside z.most),
      )

  pub entry_passes : (rows : ℕ) → event_ok rows (length text) (entry_bytes c time number (length p) y ++ t) ≡ true
  entry_passes rows = with_pass (text_in c y texted p q text split) (time_bits time valid).most rows

-- ---- the bytes of an entry
bytes_with : (first len number time k0 p0 k5 p5 k6 p6 : ℕ) → Bytes (event_with first len number time k0 p0 k5 p5 k6 p6)
unfolding event_with
bytes_with first len number time k0 p0 k5 p5 k6 p6 = search (bytes_append, bytes_number) depth 60 fits 3000

pub bytes_entry : (c : (Option OrderId)) (time : ℤ) (number first : ℕ) (y : Symbol) → Bytes (entry_bytes c time number first y)
bytes_entry c time number first y =
    rw (entry_plain c time number first y)
    (bytes_with first (length (entry_name c)) number (of_z w64 time) 4 (first + length (entry_name c) + 2 ^ 32 * y.len) (id_kind c) (id_payload c)
    (reason_kind c) (reason_payload c (first + length (entry_name c) + y.len)))

-- A join by computation: a log of one intent and an addendum of one entry, from their bytes. About no function.
-- Assumes nothing.
use Prim.Native.Nat.{ℕ, ◌+◌, ◌*◌}
use mathlib.Core.Path.{◌≡◌, refl}
use mathlib.Core.List.{List, [], ◌∷◌, ◌++◌, map}
use lib.IntN.{pos}
use lib.ListN.{length}
use Rattle.symbol.specs.declared.Symbol.{Symbol}
use Rattle.book.specs.Layout.{book_layout}
use Rattle.book.specs.Event.{text_of}
use Rattle.samples.specs.BookBytes.{part, numbered_with, book_bytes, book_opened}
use Rattle.effects.specs.Event.{events_of}
use Rattle.join.specs.Join.{book_of, each, moved_cell, moved_row, moved_event, joined}
use Rattle.intents.specs.Intents.{entry_bytes, entry_table, entry_text, entry_texts, addendum}
use Rattle.demand3.proofs.Entries.{entry_events}
use Rattle.demand3.proofs.JoinEvents.{moved_refs}
use Rattle.std.specs.Prelude.{None, Ok}

-- a log whose diff has one row, of `AB` with the action `B`, and an intent of it
log : List ℕ
log =
    book_bytes
    (numbered_with "diff_computed" 1 10 (part 6 0x1_0000_0000) ∷ numbered_with "order_intent" 2 0 (part 4 0x2_0000_0000) ∷ [])
    ((part 4 0x2_0000_0000 ∷ part 4 0x1_0000_0001 ∷ part 1 5 ∷ part 0 0 ∷ []) ∷ [])
    (65 ∷ 66 ∷ [])

y : Symbol
y = record { word = 65 + 256 * 66; len = 2 }

-- the entry of an intent that is not found
entry : List ℕ
entry = addendum None (pos 7) 2 (y ∷ [])

-- all that the examples go through
unfoldable opened : Unit {0}
unfolding book_opened log entry y addendum book_of entry_table entry_texts entry_bytes entry_text joined each moved_cell moved_row moved_event entry_events
opened = tt

entry_sound : book_layout entry ≡ (Ok tt)
unfolding opened
entry_sound = refl

-- joined whole, and cut to none: the log's events, the entry after them, and both texts
whole_events : events_of (joined log entry 1) ≡ events_of log ++ entry_events None (pos 7) 3 (length (text_of log)) (y ∷ [])
unfolding opened
whole_events = refl

whole_sound : book_layout (joined log entry 1) ≡ (Ok tt)
unfolding opened
whole_sound = refl

cut_events : events_of (joined log entry 0) ≡ events_of log
unfolding opened
cut_events = refl

cut_text : text_of (joined log entry 0) ≡ text_of log ++ text_of entry
unfolding opened
cut_text = refl

-- a log joined to itself: the second time its references, a row's too, stand 27 bytes on
twice : events_of (joined log log 2) ≡ events_of log ++ map (moved_refs 27) (events_of log)
unfolding opened
twice = refl

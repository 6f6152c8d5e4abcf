-- No test of lent bytes is refused by 3, which is the answer of an output without room. About no function.
-- Assumes nothing.
use native.Mathlib.Omega.{arith}
use mathlib.Core.List.{List}
use lib.Dec.{ltb}
use lib.IntN.{ℤ}
use lib.ListN.{length}
use Rattle.std.specs.Prelude.{ℕ, Bool, true, false, ◌||◌, ◌≡◌, Ok, Err}
use Rattle.wire.specs.Layout.{Layout, sound_if, oversize_if, broken_if, or_oversize, both_of}
use Rattle.wire.specs.declared.refusal.Refusal.{Refusal}
use Rattle.book.specs.Layout.{event_count, row_count, parts_ok, book_layout}
use Rattle.book.specs.Time.{time_layout}
use Rattle.sheet.specs.Sheet.{sheet_most, order_count, position_count, parts_ok as parts, sheet_layout}

abbrev pub NeverFull : Layout → Type 0
NeverFull l = l ≡ Err Refusal.NoRoom → ⊥

sound_never : (b : Bool) → NeverFull (sound_if b)
sound_never true h = grind arith
sound_never false h = grind arith

oversize_never : (b : Bool) (l : Layout) → NeverFull l → NeverFull (oversize_if b l)
oversize_never true l p h = grind arith
oversize_never false l p h = p h

broken_never : (b : Bool) (l : Layout) → NeverFull l → NeverFull (broken_if b l)
broken_never true l p h = grind arith
broken_never false l p h = p h

or_never : (r : Refusal) (y : Layout) → NeverFull (Err r) → NeverFull (or_oversize r y)
or_never r (Ok u) p h = p h
or_never r (Err Refusal.Oversize) p h = grind arith
or_never r (Err q) p h = p h

pub both_never : (x y : Layout) → NeverFull x → NeverFull y → NeverFull (both_of x y)
both_never (Ok u) y p q h = q h
both_never (Err Refusal.Oversize) y p q h = grind arith
both_never (Err r) y p q h = or_never r y p h

pub broken_is : NeverFull (Err Refusal.Broken)
broken_is h = grind arith

pub book_never : (s : List ℕ) → NeverFull (book_layout s)
unfolding book_layout
book_never s =
    oversize_never (ltb 1048576 (length s)) _
    (broken_never (ltb (length s) 24) _ (oversize_never (ltb 4096 (event_count s) || ltb 4096 (row_count s)) _ (sound_never (parts_ok s))))

pub sheet_never : (s : List ℕ) → NeverFull (sheet_layout s)
unfolding sheet_layout
sheet_never s =
    broken_never (ltb (length s) 24) _ (oversize_never (ltb sheet_most (order_count s) || ltb sheet_most (position_count s)) _ (sound_never (parts s)))

pub time_never : (t : ℤ) → NeverFull (time_layout t)
time_never t = sound_never _

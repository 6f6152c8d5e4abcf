-- States are equal when marks except time, positions and orders agree, texts by bytes, an absent text as an empty one, flag values 8 and 16 unread.
-- Assumes nothing.
use Rattle.std.specs.Prelude.{ℕ, ◌+◌, List, [], ◌∷◌, Bool, true, false, not, ◌&&◌, eqb, leb, ℤ, drop}
use Rattle.std.specs.Int.{w64}
use Rattle.std.proofs.Common.{of_z}
use Rattle.wire.specs.Le.{le, same_bytes}
use Rattle.wire.specs.Layout.{both_of, sound_if}
use Rattle.symbol.specs.Symbol.{same_symbol}
use Rattle.cell.specs.Cell.{text_in}
use Rattle.book.specs.Layout.{book_layout, text_length}
use Rattle.book.specs.Event.{text_of}
use Rattle.checkpoint.specs.Checkpoint.{same_checkpoint}
use Rattle.records.specs.Record.{flag, orders_in, positions_in, orders_layout, positions_layout, table_ok}
use Rattle.records.specs.declared.order.Order.{Order}
use Rattle.records.specs.declared.position.Position.{Position}
use Rattle.marks.specs.declared.Marks.{Marks}
use Rattle.marks.specs.declared.Pair.{Pair}
use Rattle.std.specs.Prelude.{Some, None, Ok, Err, Option, Result}
use Rattle.wire.specs.declared.refusal.Refusal.{Refusal}
use Rattle.wire.specs.Layout.{Layout, refused}
use Rattle.cell.specs.declared.TextRef.{TextRef}

-- ---- marks except time; a last number of none differs from 0
abbrev pub same_truth : Bool → Bool → Bool
same_truth true b = b
same_truth false b = not b

abbrev pub same_number : Option ℕ → Option ℕ → Bool
same_number (Some m) (Some n) = eqb m n
same_number (Some m) None = false
same_number None (Some n) = false
same_number None None = true

abbrev pub same_int : ℤ → ℤ → Bool
same_int x y = eqb (of_z w64 x) (of_z w64 y)

unfoldable pub same_pair : Pair → Pair → Bool
same_pair p q =
    same_truth p.intent q.intent && same_truth p.result q.result
    && same_number p.intended q.intended && same_number p.resulted q.resulted

unfoldable pub same_marks : Marks → Marks → Bool
unfolding same_pair
same_marks m n =
    same_checkpoint m.checkpoint n.checkpoint && eqb m.number n.number && same_int m.equity n.equity
    && same_truth m.completed n.completed && same_pair m.positions n.positions && same_pair m.quotes n.quotes
    && same_pair m.account n.account && same_pair m.cancel n.cancel && same_truth m.cancelfailed n.cancelfailed

-- ---- orders
-- the flags that equality reads: submitted, filled, failed
abbrev pub read_flags : Order → ℕ
read_flags o = flag o.submitted 1 + flag o.filled 2 + flag o.failed 4

-- a text by its bytes in the book's text, an absent one as an empty one
abbrev pub text_or : List ℕ → Option TextRef → List ℕ
text_or text (Some r) = text_in text r
text_or text None = []

unfoldable pub same_texts : List ℕ → List ℕ → Order → Order → Bool
same_texts s t o p =
    same_bytes (text_in s o.action) (text_in t p.action) && same_bytes (text_or s o.client) (text_or t p.client)
    && same_bytes (text_or s o.reason) (text_or t p.reason)

unfoldable pub same_order : List ℕ → List ℕ → Order → Order → Bool
unfolding same_texts
same_order s t o p =
    same_symbol o.symbol p.symbol && eqb (read_flags o) (read_flags p) && same_int o.id p.id && same_int o.shares p.shares
    && same_int o.limit p.limit && same_texts s t o p

-- ---- positions
unfoldable pub same_position : Position → Position → Bool
same_position p q = same_symbol p.symbol q.symbol && same_int p.quantity q.quantity && same_int p.cost q.cost

-- ---- lists agree in order, and in length
unfoldable pub same_lists : {A : Type 0} → (A → A → Bool) → List A → List A → Bool
same_lists f [] [] = true
same_lists f [] (y ∷ ys) = false
same_lists f (x ∷ xs) [] = false
same_lists f (x ∷ xs) (y ∷ ys) = f x y && same_lists f xs ys

-- ---- two states, each with the text of its book
unfoldable pub same_state : List ℕ → List ℕ → Marks → Marks → List Order → List Order → List Position → List Position → Bool
unfolding same_marks same_lists same_order same_position
same_state s t m n os ps xs ys =
    same_marks m n && same_lists (same_order s t) os ps && same_lists same_position xs ys

-- ---- refusals: 1 of either book; 2 of either book and of the lent records, whose texts lie within their book's
abbrev pub ref_in : ℕ → List ℕ → Bool
ref_in text s = leb (le 4 s + le 4 (drop 4 s)) text

unfoldable pub refs_ok : ℕ → List ℕ → Bool
refs_ok text s = ref_in text (drop 32 s) && ref_in text (drop 40 s) && ref_in text (drop 48 s)

abbrev pub refs_layout : ℕ → List ℕ → Layout
refs_layout text d = sound_if (table_ok (refs_ok text) 64 d)

unfoldable pub state_layout : List ℕ → List ℕ → List ℕ → Layout
unfolding refs_ok
state_layout book orders positions =
    both_of (book_layout book) (both_of (orders_layout orders) (both_of (refs_layout (text_length book) orders) (positions_layout positions)))

abbrev pub equal_if : Layout → Bool → Result Bool Refusal
equal_if (Ok tt) b = Ok b
equal_if (Err e) b = Err e

unfoldable pub states_equal : List ℕ → Marks → List ℕ → List ℕ → List ℕ → Marks → List ℕ → List ℕ → Result Bool Refusal
unfolding state_layout same_state
states_equal a m os xs b n ps ys =
    equal_if (both_of (state_layout a os xs) (state_layout b ps ys))
    (same_state (text_of a) (text_of b) m n (orders_in os) (orders_in ps) (positions_in xs) (positions_in ys))

-- the refusal's number
abbrev pub equality_number : Result Bool Refusal → ℕ
equality_number r = refused r

-- State equality by example. About no function.
-- Assumes nothing.
use Prim.Native.Nat.{ℕ}
use mathlib.Core.Path.{◌≡◌, refl}
use mathlib.Core.List.{List, [], ◌∷◌, ◌++◌, map}
use mathlib.Core.Bool.{true, false}
use lib.IntN.{pos}
use lib.ListN.{replicate}
use Rattle.wire.specs.Le.{le, bytes_of, same_bytes}
use Rattle.wire.specs.Table.{every, records}
use Rattle.symbol.specs.Symbol.{all_of, parses, field_ok, symbol_of}
use Rattle.book.specs.Layout.{book_layout, parts_ok, tables_ok, offsets_ok}
use Rattle.checkpoint.specs.declared.Checkpoint.TheVariants.{RunStarted}
use Rattle.records.specs.Record.{order_bytes, order_of, position_of, order_ok, table_ok}
use Rattle.records.specs.declared.order.Order.{Order}
use Rattle.marks.specs.Marks.{first_marks, no_pair}
use Rattle.marks.specs.declared.Marks.{Marks}
use Rattle.state.specs.State.{same_pair, same_marks, same_texts, same_order, same_position, same_lists, same_state, refs_ok, state_layout, states_equal, equality_number}
use Rattle.cell.specs.declared.TextRef.{TextRef}
use Rattle.std.specs.Prelude.{Some, None, Ok, Err, Option, Result, Bool}
use Rattle.wire.specs.declared.refusal.Refusal.{Refusal}
use Rattle.wire.specs.declared.refusal.Refusal.TheVariants as Refusal

-- a book without events or rows, with the text `xyx`
small : List ℕ
small = bytes_of 4 0 ++ bytes_of 4 24 ++ bytes_of 4 0 ++ bytes_of 4 24 ++ bytes_of 4 3 ++ bytes_of 4 24 ++ (120 ∷ 121 ∷ 120 ∷ [])

-- an order of `AB` with this action, this id and this reason
sample : ℕ → Option TextRef → Option TextRef → Order
sample first client reason =
    record {
      symbol = symbol_of (65 ∷ 66 ∷ []);
      action = record { first = first; len = 1 };
      shares = pos 7;
      limit = pos 258;
      id = pos 0;
      client = client;
      submitted = false;
      filled = false;
      failed = true;
      reason = reason;
    }

-- With these orders, and marks of these times, and nothing else:
answer : List ℕ → List ℕ → ℕ → Result Bool Refusal
unfolding states_equal
answer os ps time = states_equal small (first_marks (pos 0)) os [] small (first_marks (pos time)) ps []

-- an absent id equals an empty one, wherever that stands, and an absent reason does, the flags unread;
-- texts by their bytes, of which the first and the third are one and the second another;
-- lists of different lengths are unequal and not refused; a reference past the text is refused by 2;
-- states that differ in time only are equal
examples :
    (answer (order_bytes (sample 0 None None)) (order_bytes (sample 0 (Some (record { first = 3; len = 0 })) None)) 0 ≡ Ok true)
    × (answer (order_bytes (sample 0 None None)) (order_bytes (sample 0 None (Some (record { first = 0; len = 0 })))) 0 ≡ Ok true)
    × (answer (order_bytes (sample 0 None None)) (order_bytes (sample 2 None None)) 0 ≡ Ok true)
    × (answer (order_bytes (sample 0 None None)) (order_bytes (sample 1 None None)) 0 ≡ Ok false)
    × (answer [] (order_bytes (sample 0 None None)) 0 ≡ Ok false)
    × (answer [] (order_bytes (sample 3 None None)) 0 ≡ (Err Refusal.Broken))
    × (answer [] [] 7 ≡ Ok true)
unfolding answer small sample states_equal state_layout book_layout parts_ok tables_ok offsets_ok every table_ok order_ok field_ok parses all_of refs_ok order_bytes bytes_of le order_of position_of records same_state same_marks same_pair same_lists same_order same_texts same_bytes same_position
examples = (refl, refl, refl, refl, refl, refl, refl)

-- a last number of none differs from 0
resulted : Option ℕ → Marks
resulted n =
    record {
      checkpoint = RunStarted;
      number = 0;
      time = pos 0;
      equity = pos 0;
      completed = false;
      positions = no_pair;
      quotes = record { intent = false; result = false; intended = None; resulted = n };
      account = no_pair;
      cancel = no_pair;
      cancelfailed = false;
    }

none_is_not_zero : same_marks (resulted None) (resulted (Some 0)) ≡ false
unfolding same_marks same_pair resulted
none_is_not_zero = refl

-- 1 of the second book comes before 2 of the first: 4,097 events
many_events : states_equal [] (first_marks (pos 0)) [] [] (bytes_of 4 4097 ++ replicate 20 0) (first_marks (pos 0)) [] [] ≡ (Err Refusal.Oversize)
unfolding states_equal state_layout book_layout parts_ok tables_ok offsets_ok every table_ok refs_ok bytes_of le order_of position_of records same_state same_marks same_pair same_lists same_order same_position
many_events = refl

-- the numbers of the answers, by document 01's table of refusals
pub numbers_due : map equality_number (Ok true ∷ Ok false ∷ Err Refusal.Oversize ∷ Err Refusal.Broken ∷ []) ≡ 0 ∷ 0 ∷ 1 ∷ 2 ∷ []
numbers_due = refl

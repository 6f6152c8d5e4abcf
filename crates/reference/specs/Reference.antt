-- Document 01's reference sequence, M1 to M12, as one list with one test. Each row asks the definitions that an entry's promise cites, on bytes or on
-- f64s as a caller lends them.
-- Assumes nothing.
use Rattle.recovery.specs.declared.recover.Recovered.{Recovered}
use Rattle.intents.specs.declared.Reconciled.{Reconciled}
use Rattle.compare.specs.declared.Compared.{Compared}
use Rattle.std.specs.Prelude.{Option}
use Rattle.std.specs.Prelude.{ℕ, ◌*◌, ◌^◌, Bool, true, false, ◌&&◌, ℤ, pos, neg_ℤ, Float, set}
use Prim.Native.String.{String}
use mathlib.Core.List.{List, [], ◌∷◌, ◌++◌, map, flat_map}
use Rattle.std.specs.Float.{binary64}
use Rattle.std.specs.Float.Ieee.{round}
use Rattle.std.specs.Int.Signed.{le_z}
use Rattle.wire.specs.Le.{le, bytes_of}
use Rattle.symbol.specs.Symbol.{symbol_of, wide_field_bytes}
use Rattle.types.specs.Fixed.{to_fixed, to_cents, fixed_value}
use Rattle.checkpoint.specs.Checkpoint.{ascii}
use Rattle.audit.specs.Verdict.{Verdict, book_verdict, verdict_numbers}
use Rattle.samples.specs.BookBytes.{EventParts, part, cells_with, numbered, numbered_with, intent, begun, book_bytes}
use Rattle.samples.specs.SheetBytes.{listed, sheet_bytes}
use Rattle.records.specs.Record.{orders_in, position_bytes}
use Rattle.records.specs.declared.order.Order.{Order}
use Rattle.marks.specs.Marks.{first_marks}
use Rattle.marks.specs.declared.Marks.{Marks}
use Rattle.effects.specs.Event.{Event, events_of}
use Rattle.recovery.specs.Recover.{recovery, orders_out, recovery_number}
use Rattle.intents.specs.Intents.{reconciling, addendum_out, reconciling_number}
use Rattle.compare.specs.Compare.{comparison, report_out, comparison_number}
use Rattle.std.specs.Prelude.{Some, None, Ok, Err, Result}
use Rattle.wire.specs.declared.refusal.Refusal.{Refusal}
use Rattle.wire.specs.Layout.{refused}

-- a row: its M number, what document 01 says, what the definitions give, and what is due
pub record Row : Type 0 where
  pub m : ℕ
  pub says : String
  pub given : List ℤ
  pub due : List ℤ

-- ---- the one test
unfoldable pub same_numbers : List ℤ → List ℤ → Bool
same_numbers [] [] = true
same_numbers [] (y ∷ ys) = false
same_numbers (x ∷ xs) [] = false
same_numbers (x ∷ xs) (y ∷ ys) = le_z x y && le_z y x && same_numbers xs ys

unfoldable pub all_due : List Row → Bool
unfolding same_numbers
all_due [] = true
all_due (r ∷ rs) = same_numbers r.given r.due && all_due rs

abbrev pub number : Row → ℕ
number r = r.m

-- ---- the f64 that a decimal stands for: digits / 10 ^ places, negative where s is true
abbrev pub decimal : Bool → ℕ → ℕ → Float
decimal s digits places = round binary64 s digits (10 ^ places)

-- ---- a conversion: the refusal's number, and the value
abbrev pub converted : Result ℤ Refusal → List ℤ
converted f = pos (refused f) ∷ fixed_value f ∷ []

-- ---- a verdict: refusal, event, checkpoint
abbrev pub judged : Verdict → List ℤ
judged v = let n = verdict_numbers v in pos n.0 ∷ pos n.1 ∷ pos n.2 ∷ []

-- the desk program's book, its diff with a cell of orders
abbrev pub desk_book : EventParts → List ℕ
desk_book diff = book_bytes (begun ++ (diff ∷ [])) [] []

-- ---- a recovery of one order: the refusal's number, then the ibkr_id and whether it is filled of each record written
abbrev pub flag : Bool → ℤ
flag true = pos 1
flag false = pos 0

abbrev pub id_and_filled : Order → List ℤ
id_and_filled o = o.id ∷ flag o.filled ∷ []

unfoldable pub recovered_orders : List ℕ → List ℤ
recovered_orders book = pos (recovery_number (recovery book (pos 0) 64 0)) ∷ flat_map id_and_filled (orders_in (orders_out book (pos 0) 64 0))

-- a diff of one order of the symbol AB, and events after it
abbrev pub one_order : List EventParts → List ℕ
one_order es =
    book_bytes (numbered_with "diff_computed" 1 10 (part 6 (2 ^ 32)) ∷ es)
    ((part 4 (2 * 2 ^ 32) ∷ part 0 0 ∷ part 1 5 ∷ part 0 0 ∷ []) ∷ []) (ascii "AB")

-- order_submitted of AB with this ibkr_id, and order_filled of this one
abbrev pub submission : ℕ → EventParts
submission id =
    record { name = ascii "order_submitted"; mark = 1; number = 2; cells = set (cells_with 0 (part 4 (2 * 2 ^ 32))) 5 (part 1 id) }

abbrev pub fill : ℕ → EventParts
fill id = numbered_with "order_filled" 3 5 (part 1 id)

-- ---- reconciling: the refusal's number, entry and unreached counts, then the number, the ibkr_id and the symbol of each entry
abbrev pub number_in : Option ℕ → ℤ
number_in (Some n) = pos n
number_in None = neg_ℤ (pos 1)

abbrev pub value_in : Option ℤ → ℤ
value_in (Some z) = z
value_in None = neg_ℤ (pos 1)

abbrev pub text_in : Option (List ℕ) → List ℤ
text_in (Some s) = map pos s
text_in None = []

abbrev pub entry_of : Event → List ℤ
entry_of e = number_in e.number ∷ value_in e.id ∷ text_in e.symbol

abbrev pub counts : Result Reconciled Refusal → List ℤ
counts (Ok r) = pos r.entries ∷ pos r.unreached ∷ []
counts (Err e) = []

unfoldable pub reconciled : Marks → List ℕ → List ℕ → List ℕ → List ℤ
reconciled m orders sheet queries =
    (pos (reconciling_number (reconciling m orders sheet queries (pos 9) 1024)) ∷ counts (reconciling m orders sheet queries (pos 9) 1024))
    ++ flat_map entry_of (events_of (addendum_out m orders sheet queries (pos 9) 1024))

-- a log whose last number is 6, with intents of AB and CD
unfoldable pub two_intents : List ℕ
two_intents = book_bytes (begun ++ (numbered "diff_computed" 4 ∷ intent 5 0 ∷ intent 6 2 ∷ [])) [] (ascii "ABCD")

abbrev pub recovered_marks : Result Recovered Refusal → Marks
recovered_marks (Ok r) = r.marks
recovered_marks (Err e) = first_marks (pos 0)

-- recovery of that log, then reconciling with the sheet's orders 77 (0 left) and 78 (5 left)
unfoldable pub reconciled_by : List ℕ → List ℤ
reconciled_by queries =
    reconciled (recovered_marks (recovery two_intents (pos 0) 128 0)) (orders_out two_intents (pos 0) 128 0) (sheet_bytes 2 (listed 77 0 ++ listed 78 5) 0 []) queries

-- ---- a comparison of recovered positions with a sheet of positions: the refusal's number, the count, and the kind of the first record written
abbrev pub count_of : Result Compared Refusal → ℕ
count_of (Ok r) = r.count
count_of (Err e) = 0

unfoldable pub compared : List ℕ → List ℕ → List ℤ
compared positions sheet =
    pos (comparison_number (comparison (first_marks (pos 0)) [] positions sheet 48)) ∷ pos (count_of (comparison (first_marks (pos 0)) [] positions sheet 48))
    ∷ pos (le 4 (report_out (first_marks (pos 0)) [] positions sheet 48))
    ∷ []

-- AB with quantity 0, as it is recovered and as the broker lists it
abbrev pub held : List ℕ
held = position_bytes (record { symbol = symbol_of (ascii "AB"); quantity = pos 0; cost = pos 0 })

abbrev pub listed_position : List ℕ
listed_position = wide_field_bytes (symbol_of (ascii "AB")) ++ bytes_of 8 0

-- ---- the reference sequence
unfoldable pub reference : List Row
reference =
    record {
      m = 1;
      says = "0.125 gives 13 cents";
      given = converted (to_cents (decimal false 125 3));
      due = pos 0 ∷ pos 13 ∷ [];
    }
    ∷ record {
      m = 2;
      says = "-0.125 gives -13";
      given = converted (to_cents (decimal true 125 3));
      due = pos 0 ∷ neg_ℤ (pos 13) ∷ [];
    }
    ∷ record {
      m = 3;
      says = "scale 1: -2^63 passes";
      given = converted (to_fixed (decimal true (2 ^ 63) 0) (decimal false 1 0));
      due = pos 0 ∷ neg_ℤ (pos (2 ^ 63)) ∷ [];
    }
    ∷ record {
      m = 4;
      says = "2^63 is 10";
      given = converted (to_fixed (decimal false (2 ^ 63) 0) (decimal false 1 0));
      due = pos 10 ∷ pos 0 ∷ [];
    }
    ∷ record {
      m = 5;
      says = "0.49999999999999994, scale 1, gives 0";
      given = converted (to_fixed (decimal false 49999999999999994 17) (decimal false 1 0));
      due = pos 0 ∷ pos 0 ∷ [];
    }
    ∷ record {
      m = 6;
      says = "the desk program's book is accepted";
      given = judged (book_verdict (desk_book (numbered_with "diff_computed" 4 10 (part 6 0))));
      due = pos 0 ∷ pos 0 ∷ pos 0 ∷ [];
    }
    ∷ record {
      m = 7;
      says = "with orders none, 6 for RiskCheckPassed";
      given = judged (book_verdict (desk_book (numbered "diff_computed" 4)));
      due = pos 6 ∷ pos 0 ∷ pos 6 ∷ [];
    }
    ∷ record {
      m = 8;
      says = "ibkr_id 4,294,967,297 submitted is stored as 1; only a fill of 1 matches";
      given = recovered_orders (one_order (submission 4294967297 ∷ fill 4294967297 ∷ [])) ++ recovered_orders (one_order (submission 4294967297 ∷ fill 1 ∷ []));
      due = (pos 0 ∷ pos 1 ∷ flag false ∷ []) ++ (pos 0 ∷ pos 1 ∷ flag true ∷ []);
    }
    ∷ record {
      m = 9;
      says = "a fill of 0 fills an unsubmitted order";
      given = recovered_orders (one_order (fill 0 ∷ []));
      due = pos 0 ∷ pos 0 ∷ flag true ∷ [];
    }
    ∷ record {
      m = 10;
      says = "last number 6, two intents, sheet orders 77 (0 left), 78 (5 left): entries 7 and 8, both 78";
      given = reconciled_by (0 ∷ 0 ∷ []);
      due = (pos 0 ∷ pos 2 ∷ pos 0 ∷ []) ++ (pos 7 ∷ pos 78 ∷ map pos (ascii "AB")) ++ (pos 8 ∷ pos 78 ∷ map pos (ascii "CD"));
    }
    -- the entry is for the second symbol: with six tries it would be for the first
    ∷ record {
      m = 11;
      says = "same, queries 1,1,1,1,1,0: one entry, 7; one unreached";
      given = reconciled_by (1 ∷ 1 ∷ 1 ∷ 1 ∷ 1 ∷ 0 ∷ []);
      due = (pos 0 ∷ pos 1 ∷ pos 1 ∷ []) ++ (pos 7 ∷ pos 78 ∷ map pos (ascii "CD"));
    }
    ∷ record {
      m = 12;
      says = "a recovered quantity 0 unknown to the broker is a mismatch; the reverse isn't";
      given = compared held (sheet_bytes 0 [] 0 []) ++ compared [] (sheet_bytes 0 [] 1 listed_position);
      due = (pos 0 ∷ pos 1 ∷ pos 4 ∷ []) ++ (pos 0 ∷ pos 0 ∷ pos 0 ∷ []);
    }
    ∷ []

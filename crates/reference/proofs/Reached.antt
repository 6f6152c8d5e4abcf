-- The reference sequence by computation: every row gives what is due, and the rows are M1 to M12. About no function.
-- Assumes nothing.
use mathlib.Core.Path.{◌≡◌, refl}
use mathlib.Core.List.{[], ◌∷◌, map, flat_map}
use mathlib.Core.Bool.{true}
use lib.Ieee.{round}
use Rattle.wire.specs.Table.{padded}
use Rattle.symbol.specs.Symbol.{all_of, parses, parsed, field_ok, wide_field_ok}
use Rattle.types.specs.Fixed.{to_fixed, to_cents}
use Rattle.sheet.specs.Sheet.{offsets_ok, mark_ok, header_ok, broker_order_ok, parts_ok, sheet_layout, sheet_orders, sheet_positions}
use Rattle.records.specs.Record.{order_bytes, order_of, order_ok, position_bytes, position_of, table_ok}
use Rattle.records.specs.Search.{any_where, count_where, change_first}
use Rattle.marks.specs.Marks.{marks_at}
use Rattle.effects.specs.Step.{marks_by, positions_of_rows, intended, orders_at, positions_at, orders_by, positions_by}
use Rattle.audit.specs.Verdict.{first_fault, walk, found, place, last_empty, rules, verdict_of, book_verdict}
use Rattle.samples.specs.BookBytes.{book_opened}
use Rattle.samples.specs.SheetBytes.{sheet_bytes}
use Rattle.marks.specs.Action.{action_of}
use Rattle.recovery.specs.Recover.{steps, roomy, recovery, orders_out}
use Rattle.join.specs.Join.{book_of}
use Rattle.intents.specs.Intents.{query, chosen, reached, unreached, entry_text, entry_bytes, entry_table, entry_texts, addendum, lent_addendum, reconciling, addendum_out}
use Rattle.compare.specs.Report.{pass, expected_of, report, discrepancy_bytes}
use Rattle.compare.specs.Compare.{comparison, report_out}
use Rattle.reference.specs.Reference.{same_numbers, all_due, number, recovered_orders, reconciled, two_intents, reconciled_by, compared, reference}

-- all that the rows go through
unfoldable opened : Unit {0}
unfolding round book_opened padded all_of parses parsed field_ok wide_field_ok to_fixed to_cents offsets_ok mark_ok header_ok broker_order_ok parts_ok sheet_layout sheet_orders sheet_positions order_bytes order_of order_ok position_bytes position_of table_ok any_where count_where change_first marks_at marks_by positions_of_rows intended orders_at positions_at orders_by positions_by first_fault walk found place last_empty rules verdict_of book_verdict action_of steps roomy recovery orders_out book_of query chosen reached unreached entry_text entry_bytes entry_table entry_texts addendum lent_addendum reconciling addendum_out pass expected_of report discrepancy_bytes comparison report_out same_numbers all_due flat_map recovered_orders reconciled two_intents sheet_bytes reconciled_by compared reference
opened = tt

pub all_due_lem : all_due reference ≡ true
unfolding opened
all_due_lem = refl

pub one_to_twelve : map number reference ≡ 1 ∷ 2 ∷ 3 ∷ 4 ∷ 5 ∷ 6 ∷ 7 ∷ 8 ∷ 9 ∷ 10 ∷ 11 ∷ 12 ∷ []
unfolding reference
one_to_twelve = refl

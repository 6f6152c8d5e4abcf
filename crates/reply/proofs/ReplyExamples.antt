-- Whole replies by computation: document 01's sample, and replies of each other form. About no function.
-- Assumes nothing.
use Prim.Native.Nat.{ℕ, ◌+◌, ◌*◌}
use Prim.Native.String.{String}
use mathlib.Core.Path.{◌≡◌, refl}
use mathlib.Core.List.{List, [], ◌∷◌, ◌++◌}
use lib.ListN.{length, replicate}
use Rattle.wire.specs.Le.{le, bytes_of, same_bytes}
use Rattle.wire.specs.Table.{every, records, encoded, padded}
use Rattle.symbol.specs.Symbol.{all_of, wide_field_ok, field_ok}
use Rattle.cell.specs.Cell.{cell_of, cell_by}
use Rattle.book.specs.Layout.{payload_ok, cell_ok, row_cell_ok, row_ok, window_ok, head_ok, event_head_ok, event_ok, offsets_ok, tables_ok, parts_ok, book_layout}
use Rattle.sheet.specs.Sheet.{broker_order_ok, header_ok, mark_ok, offsets_ok as sheet_offsets_ok, parts_ok as sheet_parts_ok, sheet_layout, sheet_orders, sheet_positions}
use Rattle.checkpoint.specs.Checkpoint.{ascii, event_name, checkpoints, named_among, named}
use Rattle.audit.specs.Verdict.{first_fault, walk, found, place, last_empty, rules, verdict_of, book_verdict}
use Rattle.samples.specs.BookBytes.{EventParts, part, numbered, numbered_with, event_table, book_bytes}
use Rattle.records.specs.Record.{table_ok}
use Rattle.records.specs.Search.{any_where}
use Rattle.marks.specs.Marks.{marks_at}
use Rattle.effects.specs.Step.{marks_by, orders_by, orders_at, intended, positions_by, positions_at, positions_of_rows}
use Rattle.marks.specs.Action.{queried_action, action_of}
use Rattle.recovery.specs.Recover.{steps, roomy, recovery, orders_out, positions_out}
use Rattle.compare.specs.Report.{pass, expected_of, report}
use Rattle.compare.specs.Compare.{comparison}
use Rattle.lines.specs.Lines.{digits, checkpoint_name, newline}
use Rattle.reply.specs.Result.{compared_result, book_result}
use Rattle.reply.specs.Text.{verdict_line, action_line, last_line, recovered_lines, report_lines, refused_line}
use Rattle.reply.specs.Reply.{reply_text}

-- the lines of a text
abbrev lines : List String → List ℕ
lines [] = []
lines (s ∷ ss) = ascii s ++ newline ++ lines ss

-- document 01's book, with the orders cell of its diff_computed; and a run that stopped before its positions were answered
unfoldable pub opening : List EventParts
opening = numbered "run_started" 1 ∷ numbered "positions_intent" 2 ∷ []

unfoldable pub answered_run : EventParts → List ℕ
answered_run diff = book_bytes (opening ++ (numbered "positions_result" 3 ∷ diff ∷ [])) [] []

unfoldable pub sample : List ℕ
sample = answered_run (numbered_with "diff_computed" 4 10 (part 6 0))

orders_none : List ℕ
orders_none = answered_run (numbered "diff_computed" 4)

stopped : List ℕ
stopped = book_bytes opening [] []

-- a sheet of these orders, each an OrderId with nothing remaining and state 0, and no positions
unfoldable pub sheet_of : List ℕ → List ℕ
sheet_of ids =
    bytes_of 4 (length ids) ++ bytes_of 4 24 ++ bytes_of 4 0 ++ bytes_of 4 (24 + 24 * length ids) ++ bytes_of 8 0
    ++ encoded (λ (id : ℕ). bytes_of 8 id ++ bytes_of 16 0) ids

examples :
    (reply_text sample (sheet_of []) ≡ lines ("verdict 0 0 0" ∷ "action Restart" ∷ "last DiffComputed 4" ∷ "orders 0" ∷ "positions 0" ∷ "report 0" ∷ []))
    -- verdicts 4 to 7 print all lines too
    × (reply_text orders_none (sheet_of []) ≡ lines ("verdict 6 0 6" ∷ "action Restart" ∷ "last DiffComputed 4" ∷ "orders 0" ∷ "positions 0" ∷ "report 0" ∷ []))
    -- two orphans, then the incomplete mark: the order of the passes
    × (reply_text stopped (sheet_of (9 ∷ 8 ∷ []))
    ≡ lines ("verdict 6 0 5" ∷ "action Restart" ∷ "last PositionsIntent 2" ∷ "orders 0" ∷ "positions 0" ∷ "report 3" ∷ "1" ∷ "1" ∷ "6" ∷ []))
    -- a missing book, whatever the sheet is, and a missing sheet
    × (reply_text [] (replicate 65537 0) ≡ lines ("refused 2" ∷ []))
    × (reply_text sample [] ≡ lines ("refused 2" ∷ []))
    -- a larger file
    × (reply_text (replicate 65537 0) [] ≡ lines ("refused 1" ∷ []))
    × (reply_text sample (replicate 65537 0) ≡ lines ("refused 1" ∷ []))
unfolding sample orders_none stopped answered_run opening sheet_of book_bytes event_table reply_text book_result compared_result recovered_lines report_lines refused_line verdict_line action_line last_line checkpoint_name digits book_verdict verdict_of walk found last_empty rules first_fault place named named_among checkpoints event_name book_layout parts_ok tables_ok offsets_ok event_ok event_head_ok head_ok window_ok row_ok row_cell_ok cell_ok payload_ok cell_of cell_by le bytes_of same_bytes every records encoded padded sheet_layout sheet_parts_ok sheet_offsets_ok header_ok mark_ok broker_order_ok wide_field_ok field_ok all_of sheet_orders sheet_positions recovery roomy steps action_of queried_action orders_out positions_out marks_at marks_by orders_by orders_at intended positions_by positions_at positions_of_rows any_where table_ok comparison report pass expected_of
examples = (refl, refl, refl, refl, refl, refl, refl)

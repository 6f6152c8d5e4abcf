-- Document 01's sample and an empty sheet meet the premises of the theorems of proofs/Answered, and a time of the year 2026 that of proofs/Timeless, by
-- computation; a time before 1970 does not, and the reply would be a refusal. About no function.
-- Assumes nothing.
use mathlib.Core.Path.{◌≡◌, refl}
use mathlib.Core.List.{[]}
use lib.Dec.{lit≤}
use lib.IntN.{pos, negsuc}
use Rattle.wire.specs.Le.{le, bytes_of}
use Rattle.wire.specs.Table.{every, encoded}
use Rattle.wire.proofs.Written.{Bytes}
use Rattle.symbol.specs.Symbol.{all_of, wide_field_ok, field_ok}
use Rattle.book.specs.Layout.{payload_ok, cell_ok, row_cell_ok, row_ok, window_ok, head_ok, event_head_ok, event_ok, offsets_ok, tables_ok, parts_ok, book_layout}
use Rattle.book.specs.Time.{time_layout}
use Rattle.sheet.specs.Sheet.{broker_order_ok, header_ok, mark_ok, offsets_ok as sheet_offsets_ok, parts_ok as sheet_parts_ok, sheet_layout}
use Rattle.samples.specs.BookBytes.{event_table, book_bytes}
use Rattle.recovery.specs.Recover.{recovery}
use Rattle.reply.specs.Result.{Refused, book_result, desk_result_at}
use Rattle.reply.specs.Text.{result_text}
use Rattle.reply.specs.Reply.{reply_text}
use Rattle.reply.proofs.ReplyExamples.{opening, answered_run, sample, sheet_of}
use Rattle.sound_state.proofs.Tables.{bytes_if_lem}
use Rattle.sound_reply.specs.Answered.{answered}
use Rattle.sound_reply.proofs.Answered.{reply_answered}
use Rattle.std.specs.Prelude.{Ok, Err}
use Rattle.wire.specs.declared.refusal.Refusal.TheVariants as Refusal

sample_bytes : Bytes sample
unfolding sample answered_run opening book_bytes event_table bytes_of encoded all_of
sample_bytes = bytes_if_lem sample tt

sample_sound : book_layout sample ≡ (Ok tt)
unfolding sample answered_run opening book_bytes event_table bytes_of encoded book_layout parts_ok tables_ok offsets_ok event_ok event_head_ok head_ok window_ok row_ok row_cell_ok cell_ok payload_ok le every
sample_sound = refl

sheet_sound : sheet_layout (sheet_of []) ≡ (Ok tt)
unfolding sheet_of bytes_of encoded sheet_layout sheet_parts_ok sheet_offsets_ok header_ok mark_ok broker_order_ok wide_field_ok field_ok all_of le every
sheet_sound = refl

pub sample_answered : reply_text sample (sheet_of []) ≡ result_text (answered sample (sheet_of []))
unfolding sample answered_run opening book_bytes event_table bytes_of sheet_of encoded
sample_answered = reply_answered sample (sheet_of []) sample_bytes sample_sound (lit≤ tt) sheet_sound (lit≤ tt)

times : (time_layout (pos 1767225600000) ≡ (Ok tt)) × (time_layout (negsuc 0) ≡ (Err Refusal.Broken))
times = (refl, refl)

before_1970 : desk_result_at (negsuc 0) sample (sheet_of []) ≡ Refused 2
unfolding book_result recovery sample answered_run opening book_bytes event_table bytes_of encoded book_layout parts_ok tables_ok offsets_ok event_ok event_head_ok head_ok window_ok row_ok row_cell_ok cell_ok payload_ok le every sheet_of sheet_layout sheet_parts_ok header_ok sheet_offsets_ok mark_ok
before_1970 = refl

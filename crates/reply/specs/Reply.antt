-- The desk's reply to a book and a sheet: the text of its result, in a lent buffer.
-- Assumes nothing.
use Rattle.std.specs.Prelude.{ℕ, List, Bool, true, false, cond, leb, length, replicate}
use Rattle.wire.specs.Layout.{refusal_number}
use Rattle.wire.specs.Table.{padded}
use Rattle.reply.specs.Result.{book_result, desk_result}
use Rattle.reply.specs.Text.{result_text}
use Rattle.std.specs.Prelude.{Ok, Err, Result}
use Rattle.wire.specs.declared.refusal.Refusal.{Refusal}

unfoldable pub reply_text : List ℕ → List ℕ → List ℕ
unfolding book_result
reply_text book sheet = result_text (desk_result book sheet)

-- ---- in a lent buffer of so many bytes: the text and zeros after it, or refusal 3 and all zeros
abbrev pub replied_if : Bool → ℕ → Result ℕ Refusal
replied_if true n = Ok n
replied_if false n = (Err Refusal.NoRoom)

abbrev pub replied : List ℕ → ℕ → Result ℕ Refusal
replied t room = replied_if (leb (length t) room) (length t)

abbrev pub reply_out : List ℕ → ℕ → List ℕ
reply_out t room = cond (leb (length t) room) (padded room t) (replicate room 0)

-- the refusal's number, and the length
abbrev pub replied_numbers : Result ℕ Refusal → ℕ × ℕ
replied_numbers (Ok n) = (0, n)
replied_numbers (Err e) = (refusal_number e, 0)

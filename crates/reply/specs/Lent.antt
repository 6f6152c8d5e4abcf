-- A result whose report is in lent bytes, a text written at the start of lent bytes, and a state as recovery answers it. No entry's promise cites them.
-- Assumes nothing.
use Rattle.std.specs.Prelude.{ℕ, ◌≡◌, List, pos, length}
use Rattle.std.proofs.lemmas.List.Edits.{sets}
use Rattle.wire.specs.Le.{le}
use Rattle.wire.specs.Table.{records}
use Rattle.marks.specs.Action.{action_of}
use Rattle.recovery.specs.Recover.{State}
use Rattle.recovery.specs.declared.recover.Recovered.{Recovered}
use Rattle.reply.specs.Result.{DeskResult, Refused, Told, book_result}
use Rattle.reply.specs.Text.{result_text}
use Rattle.reply.specs.declared.Reported.{Reported}
use Rattle.std.specs.Prelude.{Ok, Err, Result}
use Rattle.wire.specs.Layout.{refusal_number}
use Rattle.wire.specs.declared.refusal.Refusal.{Refusal}

-- the result, its kinds read from the report
abbrev pub result_in : Result Reported Refusal → List ℕ → DeskResult
result_in (Ok x) report = Told x.verdict x.recovered (records (le 4) 48 x.count report)
result_in (Err e) report = Refused (refusal_number e)

-- a text of n bytes at the start of `d`
abbrev pub Writes : ℕ → List ℕ → List ℕ → List ℕ → Type 0
Writes n t d after = (n ≡ length t) × (after ≡ sets d 0 t)

-- the text of a book and a sheet by buffers of so many bytes; or their refusal, no text, and `d` as it was
abbrev pub PutsBy : ℕ → Result ℕ Refusal → List ℕ → List ℕ → List ℕ → List ℕ → Type 0
PutsBy room (Ok n) book sheet d after = Writes n (result_text (book_result 65536 (pos 0) book sheet)) d after
PutsBy room (Err r) book sheet d after = (book_result room (pos 0) book sheet ≡ Refused (refusal_number r)) × (after ≡ d)

-- what recovery answers of a state
abbrev pub recovered_of : State → Recovered
recovered_of st =
    record { marks = st.marks; orders = length st.orders; positions = length st.positions; action = action_of st.marks st.orders }

-- The reply to a sound book and a sound sheet of at most 65,536 bytes each: recovery has room, what it recovers passes the comparison's tests and reads back,
-- so all lines are printed, or refusal 3's where the report has no room. About no function.
-- Assumes nothing.
use Prim.Native.Nat.{ℕ, ◌*◌, ◌≤◌}
use mathlib.Core.Path.{◌≡◌, refl, sym, ap, ◌∙◌}
use mathlib.Core.List.{List, [], ◌∷◌, map}
use mathlib.Core.Bool.{Bool, true, false, cond}
use native.Mathlib.Omega.{arith}
use borrow.Author.Tests.{le-ltb}
use lib.Dec.{leb}
use lib.IntN.{pos}
use lib.ListN.{length, drop}
use Rattle.wire.specs.Table.{encoded}
use Rattle.wire.proofs.Written.{Bytes}
use Rattle.book.specs.Layout.{book_layout}
use Rattle.sheet.specs.Sheet.{sheet_layout}
use Rattle.records.specs.Record.{order_bytes, position_bytes}
use Rattle.audit.specs.Verdict.{Verdict, book_verdict}
use Rattle.recovery.specs.Recover.{State, state_of}
use Rattle.recovery.specs.declared.recover.Recovered.{Recovered}
use Rattle.compare.specs.Report.{discrepancy_kind}
use Rattle.compare.specs.Compare.{comparison, done_if as compared_if}
use Rattle.compare.specs.declared.discrepancy.Discrepancy.{Discrepancy}
use Rattle.lines.specs.Lines.{digits}
use Rattle.reply.specs.Result.{Refused, Told, files_layout, by_comparison, compared_result, book_result, desk_result}
use Rattle.reply.specs.Text.{verdict_line, recovered_lines, refused_line, result_text}
use Rattle.reply.specs.Reply.{reply_text}
use Rattle.reply.specs.Lent.{recovered_of}
use Rattle.reply.proofs.Parts.{fitting, by_parts}
use Rattle.sound_state.proofs.Recovered.{recovered_orders_sound, recovered_orders_in, recovered_positions_sound, recovered_positions_in}
use Rattle.sound_reply.specs.Answered.{report_on, told_if_room, answered}
use Rattle.sound_reply.proofs.RoomEnough.{has_room}
use Rattle.std.specs.Prelude.{Ok}

-- by the room for the report
by_room : (v : Verdict) (st : State) (xs : List Discrepancy) (b : Bool)
    → by_comparison v (recovered_of st) xs (compared_if b xs) ≡ cond b (Told v (recovered_of st) (map discrepancy_kind xs)) (Refused 3)
by_room v st xs true = refl
by_room v st xs false = refl

-- ---- no line of a refusal but 3's: by the first byte, and by the number
abbrev first_byte : List ℕ → ℕ
first_byte [] = 0
first_byte (x ∷ xs) = x

lines_first : (v : Verdict) (r : Recovered) (ks : List ℕ) → first_byte (result_text (Told v r ks)) ≡ 118
unfolding recovered_lines verdict_line
lines_first v r ks = refl

refused_first : (n : ℕ) → first_byte (refused_line n) ≡ 114
unfolding refused_line
refused_first n = refl

numbers_apart : (first_byte (drop 8 (refused_line 1)) ≡ 49) × (first_byte (drop 8 (refused_line 2)) ≡ 50) × (first_byte (drop 8 (refused_line 3)) ≡ 51)
unfolding refused_line digits
numbers_apart = (refl, refl, refl)

module _ (book sheet : List ℕ) (bytes : Bytes book) (sound : book_layout book ≡ (Ok tt)) (small : length book ≤ 65536)
    (listed : sheet_layout sheet ≡ (Ok tt)) (lean : length sheet ≤ 65536) where
  abbrev st : State
  st = state_of book (pos 0)

  abbrev os : List ℕ
  os = encoded order_bytes st.orders

  abbrev ps : List ℕ
  ps = encoded position_bytes st.positions

  abbrev v : Verdict
  v = book_verdict book

  unrefused : files_layout book sheet ≡ (Ok tt)
  unrefused = rw (le-ltb 65536 (length book) small, sound, le-ltb 65536 (length sheet) lean, listed)

  -- recovery has room: refusal 3 can only come from the report
  recovered : book_result 65536 (pos 0) book sheet ≡ compared_result 65536 v (recovered_of st) os ps sheet
  recovered = rw (by_parts (pos 0) book sheet 65536, sound, has_room book (pos 0) 65536 65536 sound small small) (fitting 65536 v sheet st)

  compared : compared_result 65536 v (recovered_of st) os ps sheet ≡ told_if_room v st (report_on st sheet)
  unfolding compared_result comparison
  compared =
      rw (
        listed,
        recovered_orders_sound book (pos 0) bytes sound,
        recovered_positions_sound book (pos 0) bytes sound,
        recovered_orders_in book (pos 0) bytes sound,
        recovered_positions_in book (pos 0) bytes sound,
      )
      (by_room v st (report_on st sheet) (leb (48 * length (report_on st sheet)) 65536))

  pub result_answered : desk_result book sheet ≡ answered book sheet
  unfolding answered
  result_answered = rw unrefused (recovered ∙ compared)

  pub reply_answered : reply_text book sheet ≡ result_text (answered book sheet)
  unfolding reply_text
  reply_answered = ap result_text result_answered

  -- so it is no other refusal
  not_refused : (n : ℕ) (b : Bool) (r : Recovered) (ks : List ℕ) → (refused_line 3 ≡ refused_line n → ⊥)
      → result_text (cond b (Told v r ks) (Refused 3)) ≡ refused_line n → ⊥
  not_refused n true r ks f e =
      let z : ◌≡◌ {A = ℕ} 118 114 = sym (lines_first v r ks) ∙ ap first_byte e ∙ refused_first n in omega arith
  not_refused n false r ks f e = f e

  module _ (n : ℕ) (other : refused_line 3 ≡ refused_line n → ⊥) where
    not_answered : result_text (answered book sheet) ≡ refused_line n → ⊥
    unfolding answered
    not_answered = not_refused n (leb (48 * length (report_on st sheet)) 65536) (recovered_of st) (map discrepancy_kind (report_on st sheet)) other

    never : reply_text book sheet ≡ refused_line n → ⊥
    never e = not_answered (sym reply_answered ∙ e)

  pub never_refused_1 : reply_text book sheet ≡ refused_line 1 → ⊥
  never_refused_1 =
      never 1 (λ e. let z : ◌≡◌ {A = ℕ} 51 49 = sym numbers_apart.2 ∙ ap (λ (s : List ℕ). first_byte (drop 8 s)) e ∙ numbers_apart.0 in omega arith)

  pub never_refused_2 : reply_text book sheet ≡ refused_line 2 → ⊥
  never_refused_2 =
      never 2 (λ e. let z : ◌≡◌ {A = ℕ} 51 50 = sym numbers_apart.2 ∙ ap (λ (s : List ℕ). first_byte (drop 8 s)) e ∙ numbers_apart.1 in omega arith)

-- No line of the reply depends on the caller's time: recovery at two times differs in the marks' time alone, which no line reads. About no function.
-- Assumes nothing.
use Rattle.compare.specs.declared.Compared.{Compared}
use Prim.Native.Nat.{ℕ}
use mathlib.Core.Path.{◌≡◌, refl, sym, ap, ◌∙◌}
use mathlib.Core.List.{List, [], ◌∷◌}
use mathlib.Core.Bool.{Bool, true, false, ◌&&◌}
use lib.IntN.{ℤ, pos}
use Rattle.wire.specs.Layout.{both_of}
use Rattle.book.specs.Layout.{book_layout}
use Rattle.book.specs.Time.{time_layout}
use Rattle.audit.specs.Verdict.{Verdict, book_verdict}
use Rattle.marks.specs.Action.{queried_action, action_of}
use Rattle.effects.specs.Event.{Event, events_of}
use Rattle.recovery.specs.Recover.{State, first_state, step, fits, roomy, state_of}
use Rattle.compare.specs.Report.{report}
use Rattle.compare.specs.Compare.{lent_report, comparison}
use Rattle.compare.specs.declared.discrepancy.Discrepancy.{Discrepancy}
use Rattle.reply.specs.Result.{DeskResult, files_layout, unless_refused, by_comparison, compared_result, book_result, desk_result_at}
use Rattle.reply.specs.Text.{recovered_lines, result_text}
use Rattle.reply.specs.Reply.{reply_text}
use Rattle.reply.specs.Lent.{recovered_of}
use Rattle.reply.proofs.Parts.{parts_result, by_parts}
use Rattle.sound_state.proofs.Recovered.{timeless, ButTime, step_but_time, time_apart}
use Rattle.std.specs.Prelude.{Ok, Err, Result}
use Rattle.wire.specs.declared.refusal.Refusal.{Refusal}
use Rattle.wire.specs.Layout.{Layout}

abbrev untimed : State → State
untimed st = record { marks = timeless st.marks; orders = st.orders; positions = st.positions }

untimed_same : (a b : State) → ButTime a b → untimed a ≡ untimed b
untimed_same a b h = rw (h.marks, h.orders, h.positions)

-- the text by the layouts, the room and the state
module _ (v : Verdict) (sheet : List ℕ) where
  abbrev text_by : Layout → Bool → State → List ℕ
  text_by l b st = result_text (parts_result 65536 v sheet l b st)

  module _ (st : State) where
    compared_untimed : (xs : List Discrepancy) (x : (Result Compared Refusal))
        → result_text (by_comparison v (recovered_of st) xs x) ≡ result_text (by_comparison v (recovered_of (untimed st)) xs x)
    unfolding recovered_lines action_of queried_action
    compared_untimed xs (Ok c) = refl
    compared_untimed xs (Err e) = refl

    lent_untimed : (os ps : List ℕ)
        → result_text (compared_result 65536 v (recovered_of st) os ps sheet) ≡ result_text (compared_result 65536 v (recovered_of (untimed st)) os ps sheet)
    unfolding compared_result comparison report
    lent_untimed os ps = compared_untimed (lent_report st.marks os ps sheet) (comparison st.marks os ps sheet 65536)

  text_untimed : (l : Layout) (b : Bool) (st : State) → text_by l b st ≡ text_by l b (untimed st)
  text_untimed (Ok tt) true st = lent_untimed st _ _
  text_untimed (Ok tt) false st = refl
  text_untimed (Err e) b st = refl

  text_but_time : (l : Layout) (b : Bool) (x y : State) → ButTime x y → text_by l b x ≡ text_by l b y
  text_but_time l b x y h = text_untimed l b x ∙ ap (text_by l b) (untimed_same x y h) ∙ sym (text_untimed l b y)

-- the room is that of the records
roomy_but_time : (orders positions : ℕ) (es : List Event) (a b : State) → ButTime a b → roomy orders positions a es ≡ roomy orders positions b es
unfolding roomy
roomy_but_time orders positions [] a b h = refl
roomy_but_time orders positions (e ∷ es) a b h =
    let k = step_but_time e a b h in
    let f : fits orders positions (step e a) ≡ fits orders positions (step e b) = rw (k.orders, k.positions) in
    ap (λ (x : Bool). x && roomy orders positions (step e a) es) f
    ∙ ap (λ (x : Bool). fits orders positions (step e b) && x) (roomy_but_time orders positions es (step e a) (step e b) k)

pub any_time : (time : ℤ) → time_layout time ≡ (Ok tt) → (book sheet : List ℕ)
    → result_text (book_result 65536 time book sheet) ≡ result_text (book_result 65536 (pos 0) book sheet)
any_time time valid book sheet =
    let r = roomy_but_time 65536 65536 (events_of book) (first_state time) (first_state (pos 0)) (record { marks = refl; orders = refl; positions = refl }) in
    rw (by_parts time book sheet 65536, by_parts (pos 0) book sheet 65536, valid, r)
    (text_but_time (book_verdict book) sheet (both_of (book_layout book) (Ok tt)) (roomy 65536 65536 (first_state (pos 0)) (events_of book)) (state_of book time)
    (state_of book (pos 0)) (time_apart book time (pos 0)))

-- so the whole reply is the same
unless_same : (l : Layout) (x y : DeskResult) → result_text x ≡ result_text y → result_text (unless_refused l x) ≡ result_text (unless_refused l y)
unless_same (Ok tt) x y e = e
unless_same (Err _) x y e = refl

pub reply_any_time : (time : ℤ) → time_layout time ≡ (Ok tt) → (book sheet : List ℕ) → result_text (desk_result_at time book sheet) ≡ reply_text book sheet
unfolding reply_text
reply_any_time time valid book sheet = unless_same (files_layout book sheet) _ _ (any_time time valid book sheet)

-- The result of a book by its parts: the layout, whether the room sufficed, and the state. So the report has at most as many kinds as there is room for,
-- and buffers that suffice give what longer ones do. About no function.
-- Assumes nothing.
use Prim.Native.Nat.{ℕ, ◌-◌, ◌*◌, ◌≤◌, ◌<◌}
use mathlib.Core.Path.{◌≡◌, refl, sym, ap, ◌∙◌}
use mathlib.Core.List.{List}
use mathlib.Core.Bool.{Bool, true, false}
use native.Mathlib.Omega.{arith}
use lib.Dec.{ltb}
use lib.IntN.{ℤ, pos}
use lib.ListN.{length, take, replicate, length-replicate}
use lib.Seq.{take_at}
use Rattle.wire.specs.Le.{le}
use Rattle.wire.specs.Table.{records, encoded, padded}
use Rattle.wire.specs.Layout.{both_of, oversize_if}
use Rattle.wire.proofs.Records.{length_encoded, length_records}
use Rattle.book.specs.Layout.{book_layout}
use Rattle.book.specs.Time.{time_layout}
use Rattle.sheet.specs.Sheet.{sheet_layout}
use Rattle.records.specs.Record.{order_bytes, position_bytes}
use Rattle.records.proofs.Orders.{order_size}
use Rattle.records.proofs.Positions.{position_size}
use Rattle.effects.specs.Event.{events_of}
use Rattle.audit.specs.Verdict.{Verdict, book_verdict}
use Rattle.recovery.specs.Recover.{State, first_state, roomy, state_of, done_if, refused_or, bytes_if, recovery, orders_out, positions_out}
use Rattle.recovery.specs.declared.recover.Recovered.{Recovered}
use Rattle.recovery.proofs.Rooms.{roomy_longer}
use Rattle.reply.specs.Result.{DeskResult, Refused, Told, file_layout, first_refusal, files_layout, compared_result, by_recovery, book_result}
use Rattle.reply.specs.Lent.{recovered_of}
use Rattle.reply.proofs.Compared.{kinds_of, not_told, compared_few, compared_longer}
use Rattle.std.specs.Prelude.{Ok, Err, Result}
use Rattle.wire.specs.declared.refusal.Refusal.{Refusal}
use Rattle.wire.specs.Layout.{Layout}

-- the book and the sheet are sound where neither file is refused
own_sound : (b : Bool) (l : Layout) → oversize_if b l ≡ (Ok tt) → l ≡ (Ok tt)
own_sound true l h = cc
own_sound false l h = h

first_sound : (l m : Layout) → first_refusal l m ≡ (Ok tt) → (l ≡ (Ok tt)) × (m ≡ (Ok tt))
first_sound (Ok tt) m h = (refl, h)
first_sound (Err e) m h = (h, (cc))

pub files_sound : (book sheet : List ℕ) → files_layout book sheet ≡ (Ok tt) → (book_layout book ≡ (Ok tt)) × (sheet_layout sheet ≡ (Ok tt))
files_sound book sheet h =
    let f = first_sound (file_layout book (book_layout book)) (file_layout sheet (sheet_layout sheet)) h in
    (own_sound (ltb 65536 (length book)) (book_layout book) f.0, own_sound (ltb 65536 (length sheet)) (sheet_layout sheet) f.1)

-- n zeros are as many as there are
pub blank_whole : (s : List ℕ) (n : ℕ) → s ≡ replicate n 0 → s ≡ replicate (length s) 0
blank_whole s n e = e ∙ ap (λ (m : ℕ). replicate m 0) (sym (ap length e ∙ length-replicate n 0))

-- the records at the start of a buffer
front : {A : Type 0} (f : A → List ℕ) (w : ℕ) → ((x : A) → length (f x) ≡ w) → (n : ℕ) (xs : List A) → take (w * length xs) (padded n (encoded f xs)) ≡ encoded f xs
unfolding padded
front f w size n xs = take_at (encoded f xs) (replicate (n - length (encoded f xs)) 0) (w * length xs) (length_encoded f w size xs)

-- ---- by the parts of a recovery's answer
module _ (room : ℕ) (v : Verdict) (sheet : List ℕ) where
  abbrev pub parts_result : Layout → Bool → State → DeskResult
  parts_result l b st =
      let x = refused_or l (done_if b st) in
      by_recovery room x v (bytes_if x room (encoded order_bytes st.orders)) (bytes_if x room (encoded position_bytes st.positions)) sheet

  -- the records that fit are those of the state
  pub fitting : (st : State)
      → parts_result (Ok tt) true st ≡ compared_result room v (recovered_of st) (encoded order_bytes st.orders) (encoded position_bytes st.positions) sheet
  fitting st = rw (front order_bytes 64 order_size room st.orders, front position_bytes 32 position_size room st.positions)

  parts_few : (l : Layout) (b : Bool) (st : State) → 48 * length (kinds_of (parts_result l b st)) ≤ room
  parts_few (Ok tt) true st = compared_few v (recovered_of st) _ _ sheet room
  parts_few (Ok tt) false st = omega arith
  parts_few (Err e) b st = omega arith

parts_longer : (v : Verdict) (sheet : List ℕ) (room longer : ℕ) → room ≤ longer → (w : Verdict) (q : Recovered) (ks : List ℕ) (l : Layout) (a b : Bool) (st : State)
    → (a ≡ true → b ≡ true) → parts_result room v sheet l a st ≡ Told w q ks → parts_result longer v sheet l b st ≡ Told w q ks
parts_longer v sheet room longer h w q ks (Ok tt) true b st f e =
    rw (f refl) (fitting longer v sheet st ∙ compared_longer v (recovered_of st) _ _ sheet w q ks room longer h (sym (fitting room v sheet st) ∙ e))
parts_longer v sheet room longer h w q ks (Ok tt) false b st f e = not_told e
parts_longer v sheet room longer h w q ks (Err _) a b st f e = e

-- ---- a book
module _ (time : ℤ) (book sheet : List ℕ) where
  pub by_parts : (room : ℕ)
      → book_result room time book sheet
      ≡ parts_result room (book_verdict book) sheet (both_of (book_layout book) (time_layout time)) (roomy room room (first_state time) (events_of book)) (state_of book time)
  unfolding book_result recovery orders_out positions_out
  by_parts room = refl

  pub result_few : (room : ℕ) → 48 * length (kinds_of (book_result room time book sheet)) ≤ room
  result_few room = rw (by_parts room) (parts_few room (book_verdict book) sheet (both_of (book_layout book) (time_layout time)) (roomy room room (first_state time) (events_of book)) (state_of book time))

  pub result_longer : (room longer : ℕ) → room ≤ longer → (w : Verdict) (q : Recovered) (ks : List ℕ) → book_result room time book sheet ≡ Told w q ks
      → book_result longer time book sheet ≡ Told w q ks
  result_longer room longer h w q ks e =
      by_parts longer
      ∙ parts_longer (book_verdict book) sheet room longer h w q ks (both_of (book_layout book) (time_layout time)) _ _ (state_of book time)
      (roomy_longer room room longer longer h h (first_state time) (events_of book)) (sym (by_parts room) ∙ e)

-- ---- by what the functions promise
module _ (book sheet : List ℕ) (n : ℕ) where
  -- the answer of a recovery into n zeros each
  pub by_answer : (o₀ p₀ : List ℕ) → book_layout book ≡ (Ok tt) → o₀ ≡ replicate n 0 → p₀ ≡ replicate n 0 → (x : (Result Recovered Refusal)) (o p : List ℕ)
      → (x ≡ done_if (roomy (length o₀) (length p₀) (first_state (pos 0)) (events_of book)) (state_of book (pos 0)))
      × (o ≡ bytes_if x (length o₀) (encoded order_bytes (state_of book (pos 0)).orders))
      × (p ≡ bytes_if x (length p₀) (encoded position_bytes (state_of book (pos 0)).positions))
      → book_result n (pos 0) book sheet ≡ by_recovery n x (book_verdict book) o p sheet
  by_answer o₀ p₀ sound a b x o p h =
      let i : length o₀ ≡ n = ap length a ∙ length-replicate n 0 in
      let j : length p₀ ≡ n = ap length b ∙ length-replicate n 0 in
      rw (by_parts (pos 0) book sheet n, sound, h.1, h.2, h.0, i, j)

  -- a result whose report was n zeros
  module _ (h : n ≤ 65536) (w : Verdict) (q : Recovered) (k : ℕ) (report : List ℕ)
      (e : Told w q (records (le 4) 48 k report) ≡ book_result (length (replicate {A = ℕ} n 0)) (pos 0) book sheet) where
    by_room : book_result n (pos 0) book sheet ≡ Told w q (records (le 4) 48 k report)
    by_room = sym (rw (length-replicate {A = ℕ} n 0) at e)

    pub count_few : k < 1366
    count_few = omega (arith, rw (by_room, length_records (le 4) 48 k report) at (result_few (pos 0) book sheet n))

    pub told_longer : book_result 65536 (pos 0) book sheet ≡ Told w q (records (le 4) 48 k report)
    told_longer = result_longer (pos 0) book sheet n 65536 h w q (records (le 4) 48 k report) by_room

  pub refused_by : (k : ℕ) → Refused k ≡ book_result (length (replicate {A = ℕ} n 0)) (pos 0) book sheet → book_result n (pos 0) book sheet ≡ Refused k
  refused_by k e = sym (rw (length-replicate {A = ℕ} n 0) at e)

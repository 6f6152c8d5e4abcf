-- The addendum is a sound book of the entries, not too large, and what recovery reads from it are the entries. About no function.
-- Assumes nothing.
use Rattle.types.specs.declared.order.OrderId.{OrderId}
use Prim.Native.Nat.{ℕ, suc, ◌+◌, ◌*◌, ◌^◌, ◌≤◌, ◌<◌}
use mathlib.Core.Path.{◌≡◌, refl, sym, ap, ◌∙◌}
use mathlib.Core.List.{List, [], ◌∷◌, ◌++◌, append_assoc}
use mathlib.Core.Bool.{true, false}
use native.Mathlib.Omega.{arith}
use lib.IntN.{ℤ}
use lib.ListN.{length, length-append}
use lib.Seq.{drop_at}
use Rattle.wire.specs.Le.{bytes_of}
use Rattle.wire.specs.Table.{every, records}
use Rattle.wire.proofs.Records.{Each, none, more}
use Rattle.wire.proofs.Written.{Bytes}
use Rattle.wire.proofs.Written as Wr
use Rattle.symbol.specs.Symbol.{symbol_width, all_of}
use Rattle.symbol.specs.declared.Symbol.{Symbol}
use Rattle.book.specs.Layout.{event_ok, book_layout}
use Rattle.checkpoint.specs.Checkpoint.{event_name}
use Rattle.checkpoint.specs.declared.Checkpoint.TheVariants.{OrderSubmitted, OrderFailed}
use Rattle.effects.specs.Event.{Event, event_of, events_of}
use Rattle.join.specs.Join.{too_large}
use Rattle.intents.specs.Intents.{entry_name, reason_text, entry_text, entry_bytes, entry_table, entry_texts, addendum}
use Rattle.book.specs.Time.{time_layout}
use Rattle.intents.proofs.Entries.{entry_size}
use Rattle.intents.proofs.Walks.{table_size}
use Rattle.intents.proofs.Addenda.{addendum_size}
use Rattle.demand3.proofs.Entries.{Texted, entry_event, entry_events}
use Rattle.join.proofs.BookOf.{within, ReadsAs, book_reads, book_sound}
use Rattle.symbol.proofs.Text.{bytes_take}
use Rattle.sound_state.proofs.Tables.{bytes_if_lem}
use Rattle.join.proofs.MovedTables.{bytes_append, bytes_number, all, every_all}
use Rattle.demand3.proofs.JoinLayout.{bytes_book}
use Rattle.demand3.proofs.EntryBytes.{IdFits, entry_read, entry_passes, bytes_entry}
use Rattle.std.specs.Prelude.{Some, None, Ok, Option}

-- ---- the table of the entries
unfoldable each_entry : {A : Type 0} → Option OrderId → (ℕ → ℕ → Symbol → A) → ℕ → ℕ → List Symbol → List A
each_entry c g number first [] = []
each_entry c g number first (y ∷ ys) = g number first y ∷ each_entry c g (suc number) (first + length (entry_text c y)) ys

each_event : (c : (Option OrderId)) (time : ℤ) (number first : ℕ) (ys : List Symbol) → each_entry c (entry_event c time) number first ys ≡ entry_events c time number first ys
unfolding each_entry entry_events
each_event c time number first [] = refl
each_event c time number first (y ∷ ys) =
    ap (λ (es : List Event). entry_event c time number first y ∷ es) (each_event c time (suc number) (first + length (entry_text c y)) ys)

each_true : (c : (Option OrderId)) (number first : ℕ) (ys : List Symbol) → all (each_entry c (λ (n f : ℕ) (y : Symbol). true) number first ys) ≡ true
unfolding each_entry all
each_true c number first [] = refl
each_true c number first (y ∷ ys) = each_true c (suc number) (first + length (entry_text c y)) ys

module _ (c : (Option OrderId)) (time : ℤ) where
  pub bytes_table : (number first : ℕ) (ys : List Symbol) → Bytes (entry_table c time number first ys)
  unfolding entry_table
  bytes_table number first [] = Wr.none
  bytes_table number first (y ∷ ys) = bytes_append (bytes_entry c time number first y) (bytes_table (suc number) (first + length (entry_text c y)) ys)

  -- what each entry gives, g by its number, its place in the text and its symbol, the table gives
  module _ {A : Type 0} (f : List ℕ → A) (g : ℕ → ℕ → Symbol → A) (text : List ℕ)
      (one : (number : ℕ) (y : Symbol) (p q t : List ℕ) → Texted y → text ≡ p ++ (entry_text c y ++ q) → number < 2 ^ 64
      → f (entry_bytes c time number (length p) y ++ t) ≡ g number (length p) y) where
    table_read : (number : ℕ) (ys : List Symbol) (p t : List ℕ) → Each Texted ys → text ≡ p ++ entry_texts c ys → number + length ys ≤ 2 ^ 64
        → records f 240 (length ys) (entry_table c time number (length p) ys ++ t) ≡ each_entry c g number (length p) ys
    unfolding entry_table entry_texts each_entry records
    table_read number [] p t none split room = refl
    table_read number (y ∷ ys) p t (more texted each) split room =
        let first = length p in
        let rest = entry_table c time (suc number) (first + length (entry_text c y)) ys in
        let n : number < 2 ^ 64 = omega arith in
        let next : suc number + length ys ≤ 2 ^ 64 = omega arith in
        let split' : text ≡ (p ++ entry_text c y) ++ entry_texts c ys = split ∙ sym (append_assoc p (entry_text c y) (entry_texts c ys)) in
        rw (
          append_assoc (entry_bytes c time number first y) rest t,
          one number y p (entry_texts c ys) (rest ++ t) texted split n,
          drop_at (entry_bytes c time number first y) (rest ++ t) 240 (entry_size c time number first y),
          ← length-append p (entry_text c y),
        )
        (ap (λ (es : List A). g number first y ∷ es) (table_read (suc number) ys (p ++ entry_text c y) t each split' next))

-- ---- the texts are bytes
bytes_name : (c : (Option OrderId)) → Bytes (entry_name c)
unfolding event_name all_of
bytes_name (Some id) = bytes_if_lem (event_name OrderSubmitted) tt
bytes_name None = bytes_if_lem (event_name OrderFailed) tt

bytes_reason : (c : (Option OrderId)) → Bytes (reason_text c)
unfolding all_of
bytes_reason (Some id) = Wr.none
bytes_reason None = bytes_if_lem (reason_text None) tt

pub bytes_texts : (c : (Option OrderId)) (ys : List Symbol) → Bytes (entry_texts c ys)
unfolding entry_texts entry_text
bytes_texts c [] = Wr.none
bytes_texts c (y ∷ ys) =
    bytes_append
    (bytes_append (bytes_name c) (bytes_append (bytes_take y.len (bytes_of symbol_width y.word) (bytes_number symbol_width y.word)) (bytes_reason c)))
    (bytes_texts c ys)

-- ---- the addendum
module _ (c : (Option OrderId)) (time : ℤ) (last : ℕ) (ys : List Symbol) where
  pub bytes_addendum : Bytes (addendum c time last ys)
  unfolding addendum
  bytes_addendum =
      bytes_book (length ys) 0 (entry_table c time (suc last) 0 ys) [] (entry_texts c ys) (bytes_table c time (suc last) 0 ys) Wr.none (bytes_texts c ys)

  module _ (fits : too_large (length (addendum c time last ys)) (length ys) 0 ≡ false) where
    below : 24 + 240 * length ys + 64 * 0 + length (entry_texts c ys) < 2 ^ 32
    below = omega (arith, (within (length (addendum c time last ys)) (length ys) 0 fits).bytes, addendum_size c time last ys)

    pub addendum_reads : ReadsAs (length ys) 0 (entry_table c time (suc last) 0 ys) [] (entry_texts c ys) (addendum c time last ys)
    unfolding addendum
    addendum_reads =
        book_reads (length ys) 0 (entry_table c time (suc last) 0 ys) [] (entry_texts c ys) (table_size c time (suc last) 0 ys) refl below

    module _ (id : IdFits c) (valid : time_layout time ≡ (Ok tt)) (each : Each Texted ys) (room : last + length ys < 2 ^ 64) where
      text_small : length (entry_texts c ys) < 2 ^ 32
      text_small = omega (arith, below)

      entries_pass : every (event_ok 0 (length (entry_texts c ys))) 240 (length ys) (entry_table c time (suc last) 0 ys ++ entry_texts c ys) ≡ true
      entries_pass =
          let text = entry_texts c ys in
          let ok = event_ok 0 (length (entry_texts c ys)) in
          let room' : suc last + length ys ≤ 2 ^ 64 = omega arith in
          every_all ok 240 (length ys) (entry_table c time (suc last) 0 ys ++ text)
          ∙ ap all
          (table_read c time ok (λ (n f : ℕ) (y : Symbol). true) text
          (λ (number : ℕ) (y : Symbol) (p q t : List ℕ) (h : Texted y) (split : text ≡ p ++ (entry_text c y ++ q)) (n : number < 2 ^ 64).
          entry_passes c time number y h p q text split text_small id n valid t 0)
          (suc last) ys [] text each refl room')
          ∙ each_true c (suc last) 0 ys

      pub addendum_sound : book_layout (addendum c time last ys) ≡ (Ok tt)
      unfolding addendum every
      addendum_sound =
          let e : 24 + 240 * length ys + length (entry_texts c ys) ≡ 24 + 240 * length ys + 64 * 0 + length (entry_texts c ys) = omega arith in
          book_sound (length ys) 0 (entry_table c time (suc last) 0 ys) [] (entry_texts c ys) (table_size c time (suc last) 0 ys) refl below
          (ap (λ (m : ℕ). too_large m (length ys) 0) (sym (addendum_size c time last ys ∙ e)) ∙ fits)
          entries_pass
          refl

      pub addendum_events : events_of (addendum c time last ys) ≡ entry_events c time (suc last) 0 ys
      addendum_events =
          let z = addendum_reads in
          let text = entry_texts c ys in
          let room' : suc last + length ys ≤ 2 ^ 64 = omega arith in
          rw (z.row_table, z.whole_text, z.event_table, z.count)
          (table_read c time (event_of text text) (entry_event c time) text
          (λ (number : ℕ) (y : Symbol) (p q t : List ℕ) (h : Texted y) (split : text ≡ p ++ (entry_text c y ++ q)) (n : number < 2 ^ 64).
          entry_read c time number y h p q text split text_small id n valid t text)
          (suc last) ys [] text each refl room'
          ∙ each_event c time (suc last) 0 ys)

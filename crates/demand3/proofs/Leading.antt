-- One log led to another by entries: what a round that passes does, and what any number of rounds do. About no function.
-- Assumes nothing.
use Rattle.types.specs.declared.order.OrderId.{OrderId}
use Prim.Native.Nat.{ℕ, ◌+◌, ◌*◌, ◌^◌, ◌≤◌, ◌<◌}
use mathlib.Core.Path.{◌≡◌, refl, sym, ap, ◌∙◌, subst}
use mathlib.Core.Logic.{◌⊎◌, inl, inr}
use mathlib.Core.List.{List, [], ◌++◌, append_assoc, append-nil}
use native.Mathlib.Omega.{arith}
use lib.IntN.{pos}
use lib.ListN.{length, length-append}
use Rattle.wire.proofs.Written.{Bytes}
use Rattle.wire.proofs.Records.{Each}
use Rattle.wire.proofs.Records as Of
use Rattle.symbol.specs.declared.Symbol.{Symbol}
use Rattle.book.specs.Layout.{book_layout, event_count, row_count}
use Rattle.book.specs.Event.{text_of}
use Rattle.marks.specs.declared.Marks.{Marks}
use Rattle.effects.specs.Event.{Event, events_of}
use Rattle.recovery.specs.Recover.{State, first_state, steps}
use Rattle.recovery.proofs.Appended.{steps_append}
use Rattle.intents.specs.Intents.{orders_most}
use Rattle.demand3.specs.Demand3.{recovered, open_intents}
use Rattle.demand3.proofs.Entries.{Texted}
use Rattle.demand3.proofs.Settling.{Written, end, written_more, written_append, written_length}
use Rattle.demand3.proofs.Progress.{Prog, prog_refl, prog_more, prog_trans, prog_length, open_weight, sum, one, weight_count, sum_one, sum_append, text_weight}
use Rattle.sound_state.proofs.Tabled.{events_count}
use Rattle.sound_state.proofs.Recovered.{timeless}
use Rattle.demand3.proofs.Stepping.{noted, noted_number, steps_marks, entries_positions}
use Rattle.std.specs.Prelude.{Ok, Option}

pub record Led (c : (Option OrderId)) (x y : List ℕ) : Type 0 where
  pub bytes : Bytes y
  pub sound : book_layout y ≡ (Ok tt)
  -- the entries' symbols, the entries, and the text after x's
  pub symbols : List Symbol
  pub entries : List Event
  pub texts : List ℕ
  pub events : events_of y ≡ events_of x ++ entries
  pub text : text_of y ≡ text_of x ++ texts
  pub enough : sum (text_weight c) symbols ≤ length texts
  pub texted : Each Texted symbols
  pub written : Written c (text_of y) (recovered x).marks.number symbols entries
  pub prog : Prog c (text_of y) (recovered x).orders (recovered y).orders
  pub weight : (w : Symbol → ℕ) → sum w symbols + open_weight w (recovered y).orders ≡ open_weight w (recovered x).orders
  pub rows : row_count y ≡ row_count x
  -- an entry shows that there were numbers for all, and not too many orders
  pub space : (length symbols ≡ 0) ⊎ (((recovered x).marks.number + 1 + open_intents x < 2 ^ 64) × (64 * length (recovered x).orders < orders_most))

each_join : {A : Type 0} {P : A → Type 0} {xs ys : List A} → Each P xs → Each P ys → Each P (xs ++ ys)
each_join Of.none q = q
each_join (Of.more p ps) q = Of.more p (each_join ps q)

-- ---- the state that is recovered
pub led_state : {c : (Option OrderId)} {x y : List ℕ} (l : Led c x y) → recovered y ≡ steps (recovered x) l.entries
led_state {x} l = ap (steps (first_state (pos 0))) l.events ∙ steps_append (first_state (pos 0)) (events_of x) l.entries

pub led_marks : {c : (Option OrderId)} {x y : List ℕ} (l : Led c x y) → timeless (recovered y).marks ≡ noted c (length l.symbols) (recovered x).marks
led_marks {x} l = ap (λ (st : State). timeless st.marks) (led_state l) ∙ steps_marks (recovered x) refl l.written

pub led_number : {c : (Option OrderId)} {x y : List ℕ} (l : Led c x y) → (recovered y).marks.number ≡ (recovered x).marks.number + length l.symbols
led_number {c} {x} l = ap (λ (m : Marks). m.number) (led_marks l) ∙ noted_number c (length l.symbols) (recovered x).marks

pub led_positions : {c : (Option OrderId)} {x y : List ℕ} (l : Led c x y) → (recovered y).positions ≡ (recovered x).positions
led_positions {x} l = ap (λ (st : State). st.positions) (led_state l) ∙ entries_positions (recovered x) l.written

-- entries and open intents add up
pub led_total : {c : (Option OrderId)} {x y : List ℕ} (l : Led c x y) → length l.symbols + open_intents y ≡ open_intents x
led_total {x} {y} l =
    omega (arith, sum_one l.symbols, l.weight one, weight_count (recovered x).orders, weight_count (recovered y).orders)

pub led_count : {c : (Option OrderId)} {x y : List ℕ} (l : Led c x y) → event_count y ≡ event_count x + length l.symbols
led_count {x} {y} l =
    sym (events_count y) ∙ ap length l.events ∙ length-append (events_of x) l.entries ∙ omega (arith, events_count x, written_length l.written)

-- ---- no entry, and entries after entries
pub led_refl : {c : (Option OrderId)} (x : List ℕ) → Bytes x → book_layout x ≡ (Ok tt) → Led c x x
unfolding sum
led_refl x b s =
    record {
      bytes = b;
      sound = s;
      symbols = [];
      entries = [];
      texts = [];
      events = sym (append-nil (events_of x));
      text = sym (append-nil (text_of x));
      enough = omega arith;
      texted = Of.none;
      written = end;
      prog = prog_refl (recovered x).orders;
      weight = λ w. omega arith;
      rows = refl;
      space = inl refl;
    }

led_space : {c : (Option OrderId)} {x y z : List ℕ} (l : Led c x y) (m : Led c y z)
    → (length (l.symbols ++ m.symbols) ≡ 0) ⊎ (((recovered x).marks.number + 1 + open_intents x < 2 ^ 64) × (64 * length (recovered x).orders < orders_most))
led_space {x} {y} {z} l m =
    elim l.space [
      | inr p ↦ inr p
      | inl e ↦ elim m.space [
        | inl f ↦ inl (omega (arith, length-append l.symbols m.symbols))
        | inr q ↦ inr (omega (arith, led_number l, led_total l, q.0), omega (arith, prog_length l.prog, q.1))
      ]
    ]

pub led_trans : {c : (Option OrderId)} {x y z : List ℕ} → Led c x y → Led c y z → Led c x z
led_trans {c} {x} {y} {z} l m =
    let e : text_of z ≡ text_of y ++ m.texts = m.text in
    record {
      bytes = m.bytes;
      sound = m.sound;
      symbols = l.symbols ++ m.symbols;
      entries = l.entries ++ m.entries;
      texts = l.texts ++ m.texts;
      events = m.events ∙ ap (λ (v : List Event). v ++ m.entries) l.events ∙ append_assoc (events_of x) l.entries m.entries;
      text = m.text ∙ ap (λ (v : List ℕ). v ++ m.texts) l.text ∙ append_assoc (text_of x) l.texts m.texts;
      enough =
          omega (arith, sum_append (text_weight c) l.symbols m.symbols, l.enough, m.enough, length-append l.texts m.texts);
      texted = each_join l.texted m.texted;
      written =
          written_append
          (subst (λ (t : List ℕ). Written c t (recovered x).marks.number l.symbols l.entries) (sym e) (written_more m.texts l.written))
          (led_number l) m.written;
      prog =
          prog_trans (subst (λ (t : List ℕ). Prog c t (recovered x).orders (recovered y).orders) (sym e) (prog_more m.texts l.prog)) m.prog;
      weight = λ w. omega (arith, sum_append w l.symbols m.symbols, l.weight w, m.weight w);
      rows = m.rows ∙ l.rows;
      space = led_space l m;
    }

-- One round: with the broker's choice, it leads the log to the next by the entries that were joined. About no function.
-- Assumes nothing.
use Rattle.types.specs.declared.order.OrderId.{OrderId}
use Prim.Native.Nat.{ℕ, suc, ◌+◌, ◌*◌, ◌^◌, ◌≤◌, ◌<◌}
use mathlib.Core.Path.{◌≡◌, refl, sym, ap, ◌∙◌, subst}
use mathlib.Core.Logic.{inr}
use mathlib.Core.List.{List, [], ◌∷◌, ◌++◌}
use mathlib.Core.Bool.{true, false}
use native.Mathlib.Omega.{arith}
use lib.IntN.{ℤ, pos}
use lib.ListN.{length, take}
use borrow.Author.Tests.{ltb-true, ltb-false, leb-false}
use Rattle.wire.proofs.Written.{Bytes}
use Rattle.wire.proofs.Records.{Each}
use Rattle.symbol.specs.declared.Symbol.{Symbol}
use Rattle.book.specs.Layout.{book_layout, event_count, text_length}
use Rattle.book.specs.Event.{text_of}
use Rattle.sheet.specs.Sheet.{sheet_orders, orders_failed}
use Rattle.sheet.specs.declared.BrokerOrderStatus.{BrokerOrderStatus}
use Rattle.records.specs.declared.order.Order.{Order}
use Rattle.effects.specs.Event.{Event, events_of}
use Rattle.recovery.specs.Recover.{State, first_state, steps}
use Rattle.recovery.proofs.Appended.{steps_append}
use Rattle.intents.specs.Intents.{chosen, addendum, entry_table, entry_texts, orders_most}
use Rattle.join.specs.Join.{joined, too_large}
use Rattle.rounds.specs.Rounds.{Round, Outcome, join_round, round_of, next}
use Rattle.rounds.proofs.Answers.{by_bool, Third, third_log, third_addendum, round_refused}
use Rattle.demand3.specs.Demand3.{recovered, open_intents, NoRepeat, reached_by, addendum_of, answered, Small, passes, Whole}
use Rattle.demand3.proofs.Entries.{Texted, spelt_texted, entry_events}
use Rattle.demand3.proofs.Settling.{Written, orders_after, Among, among_take, among_each}
use Rattle.demand3.proofs.Progress.{one, weight_count, sum_one, sum_take, round_prog, round_weight, reached_among, among_weight, text_weight, texts_length}
use Rattle.sound_state.proofs.Tables.{each_map}
use Rattle.sound_state.proofs.Tabled.{text_length_lem}
use Rattle.sound_state.proofs.GoodBook.{state_good}
use Rattle.demand3.proofs.Stepping.{steps_orders}
use Rattle.demand3.proofs.Calls.{Askable, Second, passed}
use Rattle.demand3.proofs.EntriesJoined.{Entered, EntriesJoin, add_reads, joins_book, joins_events, joins_text, entries_written, written_take}
use Rattle.demand3.proofs.Leading.{Led, led_total, led_count, led_refl}
use Rattle.std.specs.Prelude.{Ok, Option}

-- ---- the addendum, with the broker's choice
abbrev pub chosen_addendum : List BrokerOrderStatus → Round → List ℕ → List ℕ
chosen_addendum broker r x = addendum (chosen broker) r.time (recovered x).marks.number (reached_by r x)

-- an addendum of no entries is the same whatever was chosen
none_chosen : (c d : (Option OrderId)) (time : ℤ) (n : ℕ) (ys : List Symbol) → length ys ≡ 0 → addendum c time n ys ≡ addendum d time n ys
unfolding addendum entry_table entry_texts
none_chosen c d time n [] h = refl
none_chosen c d time n (y ∷ ys) h = let z : suc (length ys) ≡ 0 = h in absurd (omega arith)

-- a query that was answered shows the broker's list
abbrev pub Shows : List BrokerOrderStatus → Round → List ℕ → Type 0
Shows broker r x = answered r x ≡ true → sheet_orders r.sheet ≡ broker

pub addendum_same : (broker : List BrokerOrderStatus) (r : Round) (x : List ℕ) → Shows broker r x → addendum_of r x ≡ chosen_addendum broker r x
addendum_same broker r x one =
    let ys = reached_by r x in
    let n = (recovered x).marks.number in
    by_bool (answered r x) (λ y. ap (λ (l : List BrokerOrderStatus). addendum (chosen l) r.time n ys) (one y))
    (λ y. none_chosen (chosen (sheet_orders r.sheet)) (chosen broker) r.time n ys (omega (arith, ltb-false 0 (length ys) y)))

-- the symbols reached are among the open intents'
pub reached_open : (r : Round) (x : List ℕ) → Among (recovered x).orders (reached_by r x)
reached_open r x = reached_among (orders_failed r.sheet) (recovered x).orders r.queries

reached_most : (r : Round) (x : List ℕ) → length (reached_by r x) ≤ open_intents x
reached_most r x =
    omega (arith, sum_one (reached_by r x), weight_count (recovered x).orders, among_weight one (reached_open r x))

orders_texted : (x : List ℕ) → Bytes x → book_layout x ≡ (Ok tt) → Each (λ (o : Order). Texted o.symbol) (recovered x).orders
orders_texted x b s = each_map (recovered x).orders (λ o g. spelt_texted o.symbol g.symbol) (state_good x (pos 0) b s).orders

-- ---- a round on a sound log of bytes
module _ (broker : List BrokerOrderStatus) (small : Small (chosen broker)) (r : Round) (x : List ℕ) (bx : Bytes x) (sx : book_layout x ≡ (Ok tt))
    (shows : Shows broker r x) where
  pub entered : Askable r x → Entered (chosen broker) r.time (recovered x).marks.number (reached_by r x)
  entered q =
      let n = ltb-true ((recovered x).marks.number + 1 + open_intents x) (2 ^ 64) q.numbers in
      record {
        small = small;
        stamp = q.time;
        texted = among_each {P = Texted} (reached_open r x) (orders_texted x bx sx);
        numbers = omega (arith, reached_most r x);
        size = subst (λ (b : List ℕ). too_large (length b) (length (reached_by r x)) 0 ≡ false) (addendum_same broker r x shows) q.size;
      }

  joins : Second r x → Third r x (chosen_addendum broker r x) → EntriesJoin (chosen broker) r.time (recovered x).marks.number (reached_by r x) x r.k
  joins q t =
      let e = entered q.askable in
      let k = ltb-false (event_count (chosen_addendum broker r x)) r.k t.joinable.count in
      record { bytes = bx; sound = sx; entered = e; count = omega (arith, (add_reads e).count); size = t.joinable.size }

  -- the log that is joined
  module _ (d : NoRepeat (recovered x).orders) (q : Second r x) (t : Third r x (chosen_addendum broker r x)) where
    entries : List Event
    entries = take r.k (entry_events (chosen broker) r.time (suc (recovered x).marks.number) (text_length x) (reached_by r x))

    joined_written :
        Written (chosen broker) (text_of (joined x (chosen_addendum broker r x) r.k)) (recovered x).marks.number (take r.k (reached_by r x)) entries
    unfolding entries
    joined_written =
        let n = (recovered x).marks.number in
        let c = chosen broker in
        let ys = reached_by r x in
        let j = joins q t in
        let w = written_take r.k (entries_written c r.time n (text_of x) ys j.entered.texted) in
        subst (λ (s : List ℕ). Written c s n (take r.k ys) (take r.k (entry_events c r.time (suc n) (text_length x) ys))) (sym (joins_text j))
        (subst (λ (f : ℕ). Written c (text_of x ++ entry_texts c ys) n (take r.k ys) (take r.k (entry_events c r.time (suc n) f ys))) (text_length_lem x sx) w)

    joined_orders : (recovered (joined x (chosen_addendum broker r x) r.k)).orders ≡ orders_after entries (recovered x).orders
    unfolding entries
    joined_orders =
        ap (λ (es : List Event). (steps (first_state (pos 0)) es).orders) (joins_events (joins q t))
        ∙ ap (λ (st : State). st.orders) (steps_append (first_state (pos 0)) (events_of x) entries) ∙ steps_orders (recovered x) entries

    led_join : Led (chosen broker) x (joined x (chosen_addendum broker r x) r.k)
    unfolding entries
    led_join =
        let m = among_take r.k (reached_open r x) in
        let j = joins q t in
        let texted = orders_texted x bx sx in
        record {
          bytes = (joins_book j).bytes;
          sound = (joins_book j).layout;
          symbols = take r.k (reached_by r x);
          entries = entries;
          texts = entry_texts (chosen broker) (reached_by r x);
          events = joins_events j;
          text = joins_text j;
          enough = omega (arith, texts_length (chosen broker) (reached_by r x), sum_take (text_weight (chosen broker)) r.k (reached_by r x));
          texted = among_each {P = Texted} m texted;
          written = joined_written;
          prog = rw joined_orders (round_prog small m texted d joined_written);
          weight = λ w. rw joined_orders (round_weight w small m texted d joined_written);
          rows = (joins_book j).rows ∙ omega (arith, (add_reads j.entered).rows_count);
          space =
              inr (
                ltb-true ((recovered x).marks.number + 1 + open_intents x) (2 ^ 64) q.askable.numbers,
                leb-false orders_most (64 * length (recovered x).orders) q.askable.few,
              );
        }

  -- ---- a round that passes, with the broker's choice
  record Done : Type 0 where
    second : Second r x
    third : Third r x (chosen_addendum broker r x)
    is : round_of r x ≡ join_round r x (chosen_addendum broker r x)

  parts : passes r x ≡ true → Done
  parts h =
      let p = passed r x bx sx h in
      let e = addendum_same broker r x shows in
      record { second = p.second; third = subst (Third r x) e p.third; is = p.is ∙ ap (join_round r x) e }

  next_is : Done → next r x ≡ joined x (chosen_addendum broker r x) r.k
  next_is p =
      ap (λ (o : Outcome). o.log) p.is
      ∙ third_log r x (chosen_addendum broker r x) sx p.third

  pub led_passed : NoRepeat (recovered x).orders → passes r x ≡ true → Led (chosen broker) x (next r x)
  led_passed d h = let p = parts h in subst (Led (chosen broker) x) (sym (next_is p)) (led_join d p.second p.third)

  -- so many events more
  pub next_count : passes r x ≡ true → event_count (next r x) ≡ event_count x + r.k
  next_count h = let p = parts h in ap event_count (next_is p) ∙ (joins_book (joins p.second p.third)).count

  -- written whole, an entry for each symbol reached
  pub whole_count : passes r x ≡ true → Whole r x → r.k ≡ length (reached_by r x)
  whole_count h w =
      let p = parts h in
      w ∙ ap (λ (o : Outcome). event_count o.addendum) p.is ∙ ap event_count (third_addendum r x (chosen_addendum broker r x))
      ∙ (add_reads (entered p.second.askable)).count

-- ---- a round, refused or not
pub led_next : (broker : List BrokerOrderStatus) → Small (chosen broker) → (r : Round) (x : List ℕ) → Bytes x → book_layout x ≡ (Ok tt)
    → NoRepeat (recovered x).orders → (passes r x ≡ true → Shows broker r x) → Led (chosen broker) x (next r x)
led_next broker small r x bx sx d shows =
    by_bool (passes r x) (λ h. led_passed broker small r x bx sx (shows h) d h)
    (λ h. subst (Led (chosen broker) x) (sym (round_refused r x h)) (led_refl x bx sx))

pub round_fewer : (broker : List BrokerOrderStatus) → Small (chosen broker) → (r : Round) (x : List ℕ) → Bytes x → book_layout x ≡ (Ok tt)
    → NoRepeat (recovered x).orders → (passes r x ≡ true → Shows broker r x) → passes r x ≡ true → Whole r x → answered r x ≡ true → open_intents (next r x) < open_intents x
round_fewer broker small r x bx sx d shows h w a =
    let l = led_next broker small r x bx sx d shows in
    let n = ltb-true 0 (length (reached_by r x)) a in
    omega (arith, led_total l, led_count l, next_count broker small r x bx sx (shows h) h, whole_count broker small r x bx sx (shows h) h w)

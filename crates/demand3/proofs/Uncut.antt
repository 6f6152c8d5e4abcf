-- The uncut round: once some list of rounds left none open, it is not refused and leaves none open either; and there is one for every log. About no
-- function.
-- Assumes nothing.
use Prim.Native.Nat.{ℕ, zero, suc, ◌+◌, ◌*◌, ◌^◌, ◌≤◌, ◌<◌}
use mathlib.Core.Path.{◌≡◌, refl, sym, ap, ◌∙◌, subst}
use mathlib.Core.Logic.{inl, inr}
use mathlib.Core.List.{List, [], ◌∷◌}
use mathlib.Core.Bool.{Bool, true, false, ◌||◌, true≢false}
use native.Mathlib.Nat.{le_refl}
use native.Mathlib.Omega.{arith}
use lib.Dec.{leb, ltb}
use lib.IntN.{pos}
use lib.ListN.{length, replicate, length-append}
use borrow.Author.Tests.{ltb-false, leb-true, le-ltb, lt-ltb, lt-leb, le-leb}
use Rattle.wire.specs.Layout.{oversize_if, broken_if, sound_if}
use Rattle.wire.proofs.Written.{Bytes}
use Rattle.wire.proofs.Bools.{and_left, and_right}
use Rattle.book.specs.Layout.{book_layout, event_count, row_count, text_length, parts_ok}
use Rattle.book.specs.Event.{text_of}
use Rattle.sheet.specs.Sheet.{sheet_layout, sheet_orders, orders_failed}
use Rattle.sheet.specs.declared.BrokerOrderStatus.{BrokerOrderStatus}
use Rattle.effects.specs.Event.{Event, events_of}
use Rattle.recovery.specs.Recover.{State, first_state, step, fits, roomy}
use Rattle.book.proofs.Sound.{sound_counts, sound_size}
use Rattle.sound_state.proofs.Tables.{and_both}
use Rattle.sound_state.proofs.Tabled.{text_length_lem}
use Rattle.intents.specs.Intents.{chosen, reached, addendum, entry_texts, orders_most}
use Rattle.join.specs.Join.{joined_length, too_large}
use Rattle.rounds.specs.Rounds.{Round, Outcome, join_round, round_of, next, done}
use Rattle.rounds.proofs.Answers.{by_bool, Joinable, Third, round_refused}
use Rattle.demand3.specs.Demand3.{recovered, open_intents, NoRepeat, reached_by, addendum_of, passes, Small, Uncut, Room}
use Rattle.demand3.specs.Claim.{SomeUncut}
use Rattle.demand3.proofs.Progress.{weight_none, among_weight, reached_all, text_weight, texts_length}
use Rattle.demand3.proofs.Calls.{First, first_full, first_is, Askable, Second, second_full, third_full, third_done, stages}
use Rattle.intents.proofs.Addenda.{addendum_size}
use Rattle.demand3.proofs.EntriesJoined.{add_sound, add_reads}
use Rattle.demand3.proofs.Leading.{Led, led_total, led_count}
use Rattle.demand3.proofs.OneRound.{Shows, chosen_addendum, addendum_same, reached_open, entered, next_count, led_next}
use Rattle.std.specs.Prelude.{Ok, Err}
use Rattle.wire.specs.declared.refusal.Refusal.TheVariants as Refusal
use Rattle.wire.specs.Layout.{Layout}

-- ---- a sound book is not too large
size_by : (a : Bool) (l : Layout) → oversize_if a l ≡ (Ok tt) → a ≡ false
size_by true l h = let z : ◌≡◌ {A = ℕ} 0 1 = cc in absurd (omega arith)
size_by false l h = refl

sound_most : (s : List ℕ) → book_layout s ≡ (Ok tt) → length s ≤ 1048576
unfolding book_layout
sound_most s h =
    ltb-false 1048576 (length s)
    (size_by (ltb 1048576 (length s))
    (broken_if (ltb (length s) 24) (oversize_if (ltb 4096 (event_count s) || ltb 4096 (row_count s)) (sound_if (parts_ok s)))) h)

not_large : (len events rows : ℕ) → len ≤ 1048576 → events ≤ 4096 → rows ≤ 4096 → too_large len events rows ≡ false
not_large len events rows a b c = rw (le-ltb 1048576 len a, le-ltb 4096 events b, le-ltb 4096 rows c)

surely : (b : Bool) → (b ≡ false → ⊥) → b ≡ true
surely true h = refl
surely false h = absurd (h refl)

never : (b : Bool) → (b ≡ true → ⊥) → b ≡ false
never true h = absurd (h refl)
never false h = refl

by_zero : (n : ℕ) → (0 < n → ⊥) → n ≡ 0
by_zero zero h = refl
by_zero (suc n) h = absurd (h (omega arith))

-- ---- an uncut round on a sound log of bytes
module _ (broker : List BrokerOrderStatus) (small : Small (chosen broker)) (x : List ℕ) (bx : Bytes x) (sx : book_layout x ≡ (Ok tt)) (u : Round)
    (c : Uncut broker x u) where
  shows : Shows broker u x
  shows a = c.list

  uncut_reached : length (reached_by u x) ≡ open_intents x
  uncut_reached =
      ap (λ (b : Bool). length (reached b (recovered x).orders u.queries)) c.up
      ∙ ap (λ (qs : List ℕ). length (reached false (recovered x).orders qs)) c.zeros ∙ reached_all (recovered x).orders (open_intents x) refl

  -- its texts are no longer than those of a list of rounds that closed all
  uncut_texts : {y : List ℕ} (l : Led (chosen broker) x y) → open_intents y ≡ 0
      → text_length x + length (entry_texts (chosen broker) (reached_by u x)) ≤ text_length y
  uncut_texts {y} l e =
      let w = text_weight (chosen broker) in
      omega (
        arith,
        texts_length (chosen broker) (reached_by u x),
        among_weight w (reached_open u x),
        l.weight w,
        weight_none w (recovered y).orders e,
        l.enough,
        text_length_lem x sx,
        text_length_lem y l.sound,
        ap length l.text,
        length-append (text_of x) l.texts,
      )

  -- ---- no test of reconciling and join but that of the room refuses it, where something was open
  record Ready : Type 0 where
    askable : Askable u x
    joinable : Joinable u x (chosen_addendum broker u x)

  ready : {y : List ℕ} → Led (chosen broker) x y → open_intents y ≡ 0 → 0 < open_intents x → Ready
  ready {y} l e h =
      let p : ((recovered x).marks.number + 1 + open_intents x < 2 ^ 64) × (64 * length (recovered x).orders < orders_most) =
      elim l.space [ inl n ↦ absurd (omega (arith, led_total l)) | inr p ↦ p ] in
      let b = chosen_addendum broker u x in
      let ne : event_count y ≡ event_count x + open_intents x = led_count l ∙ omega (arith, led_total l) in
      let nb = addendum_size (chosen broker) u.time (recovered x).marks.number (reached_by u x) in
      let ny = sound_size y l.sound in
      let sy = sound_most y l.sound in
      let ky = sound_counts y l.sound in
      let ty = uncut_texts l e in
      let nr = uncut_reached in
      let ry = l.rows in
      let lb : length b ≤ 1048576 = omega arith in
      let a : Askable u x =
      record {
        few = lt-leb orders_most (64 * length (recovered x).orders) p.1;
        sheet = c.sheet;
        time = c.time;
        numbers = lt-ltb ((recovered x).marks.number + 1 + open_intents x) (2 ^ 64) p.0;
        size =
            subst (λ (a : List ℕ). too_large (length a) (length (reached_by u x)) 0 ≡ false) (sym (addendum_same broker u x shows))
            (not_large (length b) (length (reached_by u x)) 0 lb (omega arith) (omega arith));
      } in
      let en = entered broker small u x bx sx shows a in
      let nc = (add_reads en).count in
      let rc = (add_reads en).rows_count in
      let tc = (add_reads en).text_size in
      let k : u.k ≡ event_count b = c.whole ∙ sym nr ∙ sym nc in
      let lj : joined_length x b u.k ≤ 1048576 = omega arith in
      record {
        askable = a;
        joinable =
            record {
              sound = add_sound en;
              count = le-ltb (event_count b) u.k (omega arith);
              size = not_large (joined_length x b u.k) (event_count x + u.k) (row_count x + row_count b) lj (omega arith) (omega arith);
            };
      }

  -- ---- what each call makes of it
  reconciled : (f : First u x) (q : Second u x) → round_of u x ≡ join_round u x (chosen_addendum broker u x)
  reconciled f q = stages u x bx sx f q ∙ ap (join_round u x) (addendum_same broker u x shows)

  -- with room it is not refused
  ready_passes : Ready → Room u x → passes u x ≡ true
  ready_passes d m =
      let b = chosen_addendum broker u x in
      let f : First u x = record { now = c.now; room = m.records } in
      let q : Second u x = record { askable = d.askable; room = le-ltb u.addendum (length (addendum_of u x)) m.addendum } in
      let j : joined_length x b u.k ≤ u.joined =
      subst (λ (a : List ℕ). joined_length x a u.k ≤ u.joined) (addendum_same broker u x shows) m.joined in
      let t : Third u x b = record { joinable = d.joinable; room = le-ltb u.joined (joined_length x b u.k) j } in
      ap (λ (o : Outcome). done o.answer) (reconciled f q) ∙ third_done u x b sx t

  -- and it has room, unless its answer is 3
  ready_room : Ready → ((round_of u x).answer ≡ (Err Refusal.NoRoom) → ⊥) → Room u x
  ready_room d full =
      let b = chosen_addendum broker u x in
      let f : First u x =
      record {
        now = c.now;
        room = surely (roomy u.orders u.positions (first_state u.now) (events_of x)) (λ n. full (first_full u x sx c.now n));
      } in
      let q : Second u x =
      record {
        askable = d.askable;
        room =
            never (ltb u.addendum (length (addendum_of u x)))
            (λ n. full (ap (λ (o : Outcome). o.answer) (first_is u x sx f) ∙ second_full u x bx sx f d.askable n));
      } in
      let j : ltb u.joined (joined_length x b u.k) ≡ false =
      never (ltb u.joined (joined_length x b u.k))
      (λ n. full (ap (λ (o : Outcome). o.answer) (reconciled f q) ∙ third_full u x b sx d.joinable n)) in
      record {
        records = f.room;
        addendum = ltb-false u.addendum (length (addendum_of u x)) q.room;
        joined =
            subst (λ (a : List ℕ). joined_length x a u.k ≤ u.joined) (sym (addendum_same broker u x shows))
            (ltb-false u.joined (joined_length x b u.k) j);
      }

  pub uncut_room : {y : List ℕ} → Led (chosen broker) x y → open_intents y ≡ 0 → ((round_of u x).answer ≡ (Err Refusal.NoRoom) → ⊥) → 0 < open_intents x → Room u x
  uncut_room l e full h = ready_room (ready l e h) full

  -- ---- refused or not, it leaves none open
  pub uncut_led : NoRepeat (recovered x).orders → Led (chosen broker) x (next u x)
  uncut_led d = led_next broker small u x bx sx d (λ h. shows)

  pub uncut_shut : {y : List ℕ} → NoRepeat (recovered x).orders → Led (chosen broker) x y → open_intents y ≡ 0 → (0 < open_intents x → Room u x)
      → open_intents (next u x) ≡ 0
  uncut_shut {y} d l e m =
      let v = uncut_led d in
      by_bool (passes u x)
      (λ h. let n = next_count broker small u x bx sx shows h in omega (arith, led_total v, led_count v, c.whole))
      (λ h. ap open_intents (round_refused u x h) ∙ by_zero (open_intents x) (λ z. true≢false (sym (ready_passes (ready l e z) (m z)) ∙ h)))

-- ---- there is one: room for all records
more_fits : (x y a p : ℕ) (st : State) → fits a p st ≡ true → fits (x + a) (y + p) st ≡ true
more_fits x y a p st h =
    let i = leb-true (64 * length st.orders) a (and_left (leb (64 * length st.orders) a) (leb (32 * length st.positions) p) h) in
    let j = leb-true (32 * length st.positions) p (and_right (leb (64 * length st.orders) a) (leb (32 * length st.positions) p) h) in
    and_both (le-leb (64 * length st.orders) (x + a) (omega arith)) (le-leb (32 * length st.positions) (y + p) (omega arith))

more_room : (x y a p : ℕ) (st : State) (es : List Event) → roomy a p st es ≡ true → roomy (x + a) (y + p) st es ≡ true
unfolding roomy
more_room x y a p st [] h = refl
more_room x y a p st (e ∷ es) h =
    and_both (more_fits x y a p (step e st) (and_left (fits a p (step e st)) (roomy a p (step e st) es) h))
    (more_room x y a p (step e st) es (and_right (fits a p (step e st)) (roomy a p (step e st) es) h))

record Records (st : State) (es : List Event) : Type 0 where
  orders : ℕ
  positions : ℕ
  enough : roomy orders positions st es ≡ true

records_for : (st : State) (es : List Event) → Records st es
unfolding roomy
records_for st [] = record { orders = 0; positions = 0; enough = refl }
records_for st (e ∷ es) =
    let r = records_for (step e st) es in
    let x = 64 * length (step e st).orders in
    let y = 32 * length (step e st).positions in
    record {
      orders = x + r.orders;
      positions = y + r.positions;
      enough =
          and_both (and_both (le-leb x (x + r.orders) (omega arith)) (le-leb y (y + r.positions) (omega arith)))
          (more_room x y r.orders r.positions (step e st) es r.enough);
    }

-- and as much for B and for the log as they take
pub uncut_exists : (sheet log : List ℕ) → sheet_layout sheet ≡ (Ok tt) → orders_failed sheet ≡ false → SomeUncut sheet log
uncut_exists sheet log h up =
    let r = records_for (first_state (pos 0)) (events_of log) in
    let n = open_intents log in
    let qs : List ℕ = replicate n 0 in
    let b = addendum (chosen (sheet_orders sheet)) (pos 0) (recovered log).marks.number (reached (orders_failed sheet) (recovered log).orders qs) in
    record {
      round =
          record {
            sheet = sheet;
            queries = qs;
            now = pos 0;
            time = pos 0;
            k = n;
            orders = r.orders;
            positions = r.positions;
            addendum = length b;
            joined = joined_length log b n;
          };
      uncut = record { sheet = h; list = refl; up = up; zeros = refl; now = refl; time = refl; whole = refl };
      room = record { records = r.enough; addendum = le_refl (length b); joined = le_refl (joined_length log b n) };
    }

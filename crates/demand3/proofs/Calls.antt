-- The three calls of a round, one by one: what each needs to pass, and what it hands to the next. About no function.
-- Assumes nothing.
use Prim.Native.Nat.{ℕ, ◌+◌, ◌*◌}
use mathlib.Core.Path.{◌≡◌, refl, sym, ap, ◌∙◌}
use mathlib.Core.List.{List, []}
use mathlib.Core.Bool.{Bool, true, false, cond, false≢true}
use native.Mathlib.Omega.{arith}
use lib.Dec.{leb, ltb}
use lib.IntN.{ℤ, pos}
use lib.ListN.{length, take}
use borrow.Author.Tests.{le-ltb}
use Rattle.wire.specs.Table.{encoded, padded}
use Rattle.wire.specs.Layout.{both_of}
use Rattle.wire.proofs.Layouts.{both_sound}
use Rattle.wire.proofs.Written.{Bytes}
use Rattle.wire.proofs.Records.{length_encoded}
use Rattle.book.specs.Layout.{book_layout, event_count, row_count}
use Rattle.sheet.specs.Sheet.{sheet_layout, sheet_orders, orders_failed}
use Rattle.records.specs.Record.{order_bytes, orders_in, orders_layout}
use Rattle.records.specs.Search.{is_intent, count_where}
use Rattle.records.specs.declared.order.Order.{Order}
use Rattle.records.proofs.Orders.{order_size}
use Rattle.marks.specs.declared.Marks.{Marks}
use Rattle.effects.specs.Event.{events_of}
use Rattle.marks.specs.Action.{action_of}
use Rattle.recovery.specs.Recover.{first_state, roomy, state_of, recovery, bytes_if, orders_out}
use Rattle.book.specs.Time.{time_layout}
use Rattle.recovery.specs.declared.recover.Recovered.{Recovered}
use Rattle.intents.specs.Intents.{reached, unreached, chosen, addendum, lent_addendum, orders_most, numbers_left, reconciles_if, reconciling, addendum_bytes_if, addendum_out}
use Rattle.intents.specs.declared.Reconciled.{Reconciled}
use Rattle.join.specs.Join.{joined_length, too_large, joins_if, joining}
use Rattle.rounds.specs.Rounds.{Round, Outcome, after_join, join_round, lent_orders, written_addendum, after_reconciling, reconcile_round, after_recovery, round_of, done}
use Rattle.demand3.proofs.NeverFull.{NeverFull, both_never, broken_is, book_never, sheet_never, time_never}
use Rattle.rounds.proofs.Answers.{by_bool, take_padded, done_parts, reconciles_done, never_broken, Joinable, Third, third_passed, joining_is}
use Rattle.demand3.specs.Demand3.{recovered, open_intents, reached_by, addendum_of, passes, Room}
use Rattle.sound_state.proofs.Recovered.{recovered_orders_sound, recovered_orders_in, time_apart}
use Rattle.std.specs.Prelude.{Ok, Err, Result}
use Rattle.wire.specs.declared.refusal.Refusal.{Refusal}
use Rattle.wire.specs.Layout.{Layout}

-- ---- the first call
abbrev pub recovered_at : List ℕ → ℤ → Recovered
recovered_at log now =
    let st = state_of log now in
    record { marks = st.marks; orders = length st.orders; positions = length st.positions; action = action_of st.marks st.orders }

pub record First (r : Round) (log : List ℕ) : Type 0 where
  pub now : time_layout r.now ≡ (Ok tt)
  pub room : roomy r.orders r.positions (first_state r.now) (events_of log) ≡ true

record Recovering (v : (Result Recovered Refusal)) : Type 0 where
  given : Recovered
  is : v ≡ Ok given

recovering : (r : Round) (log : List ℕ) (v : (Result Recovered Refusal)) → done (after_recovery r log v).answer ≡ true → Recovering v
recovering r log (Ok x) h = record { given = x; is = refl }
recovering r log (Err e) h = absurd (false≢true h)

pub first_passed : (r : Round) (log : List ℕ) → passes r log ≡ true → First r log
unfolding round_of recovery
first_passed r log h =
    let g = recovering r log (recovery log r.now r.orders r.positions) h in
    let p =
    done_parts (both_of (book_layout log) (time_layout r.now)) (roomy r.orders r.positions (first_state r.now) (events_of log))
    (state_of log r.now) g.given g.is in
    record { now = (both_sound (book_layout log) (time_layout r.now) p.0).1; room = p.1 }

recovery_is : (r : Round) (log : List ℕ) → book_layout log ≡ (Ok tt) → First r log
    → recovery log r.now r.orders r.positions ≡ Ok (recovered_at log r.now)
unfolding recovery
recovery_is r log s f = rw (s, f.now, f.room)

pub first_is : (r : Round) (log : List ℕ) → book_layout log ≡ (Ok tt) → First r log → round_of r log ≡ reconcile_round r log (recovered_at log r.now)
unfolding round_of
first_is r log s f = ap (after_recovery r log) (recovery_is r log s f)

-- refused by 3 alone
pub first_full : (r : Round) (log : List ℕ) → book_layout log ≡ (Ok tt) → time_layout r.now ≡ (Ok tt)
    → roomy r.orders r.positions (first_state r.now) (events_of log) ≡ false → (round_of r log).answer ≡ (Err Refusal.NoRoom)
unfolding round_of
first_full r log s t f = ap (λ (v : (Result Recovered Refusal)). (after_recovery r log v).answer) full
  where
    full : recovery log r.now r.orders r.positions ≡ (Err Refusal.NoRoom)
    full = unfold recovery in rw (s, t, f)

-- ---- the second call
pub record Askable (r : Round) (log : List ℕ) : Type 0 where
  pub few : leb orders_most (64 * length (recovered log).orders) ≡ false
  pub sheet : sheet_layout r.sheet ≡ (Ok tt)
  pub time : time_layout r.time ≡ (Ok tt)
  pub numbers : numbers_left (recovered log).marks.number (open_intents log) ≡ true
  pub size : too_large (length (addendum_of r log)) (length (reached_by r log)) 0 ≡ false

pub record Second (r : Round) (log : List ℕ) : Type 0 where
  pub askable : Askable r log
  pub room : ltb r.addendum (length (addendum_of r log)) ≡ false

-- what it is lent: the marks' number and the orders
number_apart : (log : List ℕ) (now : ℤ) → (state_of log now).marks.number ≡ (recovered log).marks.number
number_apart log now = ap (λ (m : Marks). m.number) (time_apart log now (pos 0)).marks

lent_is : (r : Round) (log : List ℕ) → book_layout log ≡ (Ok tt) → First r log
    → lent_orders r log (recovered_at log r.now) ≡ encoded order_bytes (recovered log).orders
unfolding orders_out
lent_is r log s f =
    let os = (state_of log r.now).orders in
    let e : encoded order_bytes os ≡ encoded order_bytes (recovered log).orders = ap (encoded order_bytes) (time_apart log r.now (pos 0)).orders in
    ap (λ (v : (Result Recovered Refusal)). take (64 * length os) (bytes_if v r.orders (encoded order_bytes os))) (recovery_is r log s f)
    ∙ ap (λ (n : ℕ). take n (padded r.orders (encoded order_bytes os))) (sym (length_encoded order_bytes 64 order_size os))
    ∙ take_padded r.orders (encoded order_bytes os) ∙ e

-- the answer, by the length, the layout and the orders of what it is lent, the number and the addendum
unfoldable answer_by : Round → ℕ → Layout → List Order → ℕ → List ℕ → Result Reconciled Refusal
unfolding unreached reached count_where
answer_by r len l os k a =
    cond (leb orders_most len) (reconciles_if (both_of (sheet_layout r.sheet) (Err Refusal.Broken)) true [] 0 0 r.addendum)
    (reconciles_if (both_of (sheet_layout r.sheet) (both_of l (time_layout r.time))) (numbers_left k (count_where is_intent os)) a
    (length (reached (orders_failed r.sheet) os r.queries)) (unreached (orders_failed r.sheet) os r.queries) r.addendum)

answer_by_lem : (r : Round) (m : Marks) (d : List ℕ)
    → reconciling m d r.sheet r.queries r.time r.addendum
    ≡ answer_by r (length d) (orders_layout d) (orders_in d) m.number (lent_addendum m d r.sheet r.queries r.time)
unfolding reconciling answer_by
answer_by_lem r m d = refl

addendum_by : (r : Round) (m : Marks) (d : List ℕ) (k : ℕ) (os : List Order) → m.number ≡ k → orders_in d ≡ os
    → lent_addendum m d r.sheet r.queries r.time
    ≡ addendum (chosen (sheet_orders r.sheet)) r.time k (reached (orders_failed r.sheet) os r.queries)
unfolding lent_addendum
addendum_by r m d k os p q =
    ap (λ (x : List Order). addendum (chosen (sheet_orders r.sheet)) r.time m.number (reached (orders_failed r.sheet) x r.queries)) q
    ∙ ap (λ (x : ℕ). addendum (chosen (sheet_orders r.sheet)) r.time x (reached (orders_failed r.sheet) os r.queries)) p

abbrev asked : Round → List ℕ → Result Reconciled Refusal
asked r log = answer_by r (64 * length (recovered log).orders) (Ok tt) (recovered log).orders (recovered log).marks.number (addendum_of r log)

-- taken apart
record Answered (r : Round) (len : ℕ) (os : List Order) (k : ℕ) (a : List ℕ) (y : Reconciled) : Type 0 where
  few : leb orders_most len ≡ false
  sheet : sheet_layout r.sheet ≡ (Ok tt)
  time : time_layout r.time ≡ (Ok tt)
  numbers : numbers_left k (count_where is_intent os) ≡ true
  size : too_large (length a) (length (reached (orders_failed r.sheet) os r.queries)) 0 ≡ false
  room : ltb r.addendum (length a) ≡ false
  length : y.length ≡ length a

answered : (r : Round) (len : ℕ) (os : List Order) (k : ℕ) (a : List ℕ) (y : Reconciled) → answer_by r len (Ok tt) os k a ≡ Ok y → Answered r len os k a y
unfolding answer_by
answered r len os k a y h =
    by_bool (leb orders_most len) (λ e. absurd (never_broken (sheet_layout r.sheet) y r.addendum (rw e at h)))
    (λ e.
    let p =
    reconciles_done (both_of (sheet_layout r.sheet) (time_layout r.time)) (numbers_left k (count_where is_intent os)) a
    (length (reached (orders_failed r.sheet) os r.queries)) (unreached (orders_failed r.sheet) os r.queries) r.addendum y (rw e at h) in
    let q = both_sound (sheet_layout r.sheet) (time_layout r.time) p.0 in
    record { few = e; sheet = q.0; time = q.1; numbers = p.1; size = p.2; room = p.3; length = p.4 })

-- where there is room for the addendum, 3 is not the answer
reconciles_room : (l : Layout) → NeverFull l → (b : Bool) (a : List ℕ) (n m room : ℕ) → ltb room (length a) ≡ false → reconciles_if l b a n m room ≡ (Err Refusal.NoRoom) → ⊥
reconciles_room (Err x) w b a n m room e h = let k : x ≡ Refusal.NoRoom = grind arith in w (ap (λ (q : Refusal). Err q) k)
reconciles_room (Ok tt) w false a n m room e h = grind arith
reconciles_room (Ok tt) w true a n m room e h =
    by_bool (too_large (length a) n 0) (λ t. let f = rw t at h in grind arith)
    (λ t. let f = rw (t, e) at h in grind arith)

broken_room : (l : Layout) → NeverFull l → (n : ℕ) → reconciles_if (both_of l (Err Refusal.Broken)) true [] 0 0 n ≡ (Err Refusal.NoRoom) → ⊥
broken_room l w n h =
    reconciles_room (both_of l (Err Refusal.Broken)) (both_never l (Err Refusal.Broken) w broken_is) true [] 0 0 n (le-ltb n 0 (omega arith)) h

answer_room : (r : Round) (len : ℕ) (os : List Order) (k : ℕ) (a : List ℕ) → ltb r.addendum (length a) ≡ false → answer_by r len (Ok tt) os k a ≡ (Err Refusal.NoRoom) → ⊥
unfolding answer_by
answer_room r len os k a room h =
    by_bool (leb orders_most len) (λ e. broken_room (sheet_layout r.sheet) (sheet_never r.sheet) r.addendum (rw e at h))
    (λ e.
    reconciles_room (both_of (sheet_layout r.sheet) (time_layout r.time)) (both_never _ _ (sheet_never r.sheet) (time_never r.time)) (numbers_left k (count_where is_intent os)) a
    (length (reached (orders_failed r.sheet) os r.queries)) (unreached (orders_failed r.sheet) os r.queries) r.addendum room (rw e at h))

record Reconciles (v : (Result Reconciled Refusal)) : Type 0 where
  given : Reconciled
  is : v ≡ Ok given

reconciles : (r : Round) (log : List ℕ) (x : Recovered) (v : (Result Reconciled Refusal)) → done (after_reconciling r log x v).answer ≡ true → Reconciles v
reconciles r log x (Ok y) h = record { given = y; is = refl }
reconciles r log x (Err e) h = absurd (false≢true h)

module _ (r : Round) (log : List ℕ) (b : Bytes log) (s : book_layout log ≡ (Ok tt)) (f : First r log) where
  -- the orders that were lent are those recovered
  orders_back : orders_in (lent_orders r log (recovered_at log r.now)) ≡ (recovered log).orders
  orders_back =
      ap orders_in (lent_is r log s f) ∙ recovered_orders_in log (pos 0) b s

  layout_back : orders_layout (lent_orders r log (recovered_at log r.now)) ≡ (Ok tt)
  layout_back = ap orders_layout (lent_is r log s f) ∙ recovered_orders_sound log (pos 0) b s

  length_back : length (lent_orders r log (recovered_at log r.now)) ≡ 64 * length (recovered log).orders
  length_back = ap length (lent_is r log s f) ∙ length_encoded order_bytes 64 order_size (recovered log).orders

  addendum_back :
      lent_addendum (state_of log r.now).marks (lent_orders r log (recovered_at log r.now)) r.sheet r.queries r.time ≡ addendum_of r log
  addendum_back =
      addendum_by r (state_of log r.now).marks (lent_orders r log (recovered_at log r.now)) (recovered log).marks.number (recovered log).orders
      (number_apart log r.now) orders_back

  asked_is : reconciling (state_of log r.now).marks (lent_orders r log (recovered_at log r.now)) r.sheet r.queries r.time r.addendum ≡ asked r log
  asked_is =
      let d = lent_orders r log (recovered_at log r.now) in
      let m = (state_of log r.now).marks in
      let a = lent_addendum m d r.sheet r.queries r.time in
      answer_by_lem r m d ∙ ap (λ (x : ℕ). answer_by r x (orders_layout d) (orders_in d) m.number a) length_back
      ∙ ap (λ (x : Layout). answer_by r (64 * length (recovered log).orders) x (orders_in d) m.number a) layout_back
      ∙ ap (λ (x : List Order). answer_by r (64 * length (recovered log).orders) (Ok tt) x m.number a) orders_back
      ∙ ap (λ (x : ℕ). answer_by r (64 * length (recovered log).orders) (Ok tt) (recovered log).orders x a) (number_apart log r.now)
      ∙ ap (answer_by r (64 * length (recovered log).orders) (Ok tt) (recovered log).orders (recovered log).marks.number) addendum_back

  second_done : (y : Reconciled) → asked r log ≡ Ok y → Second r log
  second_done y e =
      let p = answered r (64 * length (recovered log).orders) (recovered log).orders (recovered log).marks.number (addendum_of r log) y e in
      record { askable = record { few = p.few; sheet = p.sheet; time = p.time; numbers = p.numbers; size = p.size }; room = p.room }

  pub second_passed : done (reconcile_round r log (recovered_at log r.now)).answer ≡ true → Second r log
  unfolding reconcile_round
  second_passed h =
      let d = lent_orders r log (recovered_at log r.now) in
      let m = (state_of log r.now).marks in
      let v = reconciles r log (recovered_at log r.now) (reconciling m d r.sheet r.queries r.time r.addendum) h in
      second_done v.given (sym asked_is ∙ v.is)

  -- what it answers where it passes
  abbrev pub reconciled_by : Reconciled
  reconciled_by =
      record {
        entries = length (reached_by r log);
        unreached = unreached (orders_failed r.sheet) (recovered log).orders r.queries;
        length = length (addendum_of r log);
      }

  asked_done : Second r log → asked r log ≡ Ok reconciled_by
  unfolding answer_by
  asked_done q = rw (q.askable.few, q.askable.sheet, q.askable.time, q.askable.numbers, q.askable.size, q.room)

  asked_full : Askable r log → ltb r.addendum (length (addendum_of r log)) ≡ true → asked r log ≡ (Err Refusal.NoRoom)
  unfolding answer_by
  asked_full q h = rw (q.few, q.sheet, q.time, q.numbers, q.size, h)

  -- refused by 3 alone
  pub second_full : Askable r log → ltb r.addendum (length (addendum_of r log)) ≡ true
      → (reconcile_round r log (recovered_at log r.now)).answer ≡ (Err Refusal.NoRoom)
  unfolding reconcile_round
  second_full q h = ap (λ (v : (Result Reconciled Refusal)). (after_reconciling r log (recovered_at log r.now) v).answer) (asked_is ∙ asked_full q h)

  lent_addendum_lem : Second r log → written_addendum r log (recovered_at log r.now) reconciled_by ≡ addendum_of r log
  unfolding addendum_out
  lent_addendum_lem q =
      let d = lent_orders r log (recovered_at log r.now) in
      let m = (state_of log r.now).marks in
      let a = addendum_of r log in
      ap (λ (v : (Result Reconciled Refusal)). take (length a) (addendum_bytes_if v r.addendum (lent_addendum m d r.sheet r.queries r.time))) (asked_is ∙ asked_done q)
      ∙ ap (λ (x : List ℕ). take (length a) (padded r.addendum x)) addendum_back ∙ take_padded r.addendum a

  pub second_is : Second r log → reconcile_round r log (recovered_at log r.now) ≡ join_round r log (addendum_of r log)
  unfolding reconcile_round
  second_is q =
      ap (after_reconciling r log (recovered_at log r.now)) (asked_is ∙ asked_done q) ∙ ap (join_round r log) (lent_addendum_lem q)

-- ---- the third call
-- refused by 3 alone
joining_full : (r : Round) (log b : List ℕ) → book_layout log ≡ (Ok tt) → Joinable r log b → ltb r.joined (joined_length log b r.k) ≡ true
    → joining log b r.k r.joined ≡ (Err Refusal.NoRoom)
unfolding joining
joining_full r log b s t h = rw (s, t.sound, t.count, t.size, h)

pub third_full : (r : Round) (log b : List ℕ) → book_layout log ≡ (Ok tt) → Joinable r log b → ltb r.joined (joined_length log b r.k) ≡ true
    → (join_round r log b).answer ≡ (Err Refusal.NoRoom)
unfolding join_round
third_full r log b s t h = ap (λ (v : (Result ℕ Refusal)). (after_join r log b v).answer) (joining_full r log b s t h)

pub third_done : (r : Round) (log b : List ℕ) → book_layout log ≡ (Ok tt) → Third r log b → done (join_round r log b).answer ≡ true
unfolding join_round
third_done r log b s t = ap (λ (v : (Result ℕ Refusal)). done (after_join r log b v).answer) (joining_is r log b s t)

joins_room : (l : Layout) → NeverFull l → (a b : List ℕ) (k room : ℕ) → ltb room (joined_length a b k) ≡ false → joins_if l a b k room ≡ (Err Refusal.NoRoom) → ⊥
joins_room (Err x) w a b k room e h = let k : x ≡ Refusal.NoRoom = grind arith in w (ap (λ (q : Refusal). Err q) k)
joins_room (Ok tt) w a b k room e h =
    by_bool (ltb (event_count b) k) (λ t. let f = rw t at h in grind arith)
    (λ t.
    by_bool (too_large (joined_length a b k) (event_count a + k) (row_count a + row_count b))
    (λ u. let f = rw (t, u) at h in grind arith)
    (λ u. let f = rw (t, u, e) at h in grind arith))

third_room : (r : Round) (log b : List ℕ) → ltb r.joined (joined_length log b r.k) ≡ false → (join_round r log b).answer ≡ (Err Refusal.NoRoom) → ⊥
unfolding join_round joining
third_room r log b e h = by (joining log b r.k r.joined) refl h
  where
    by : (v : (Result ℕ Refusal)) → joining log b r.k r.joined ≡ v → (after_join r log b v).answer ≡ (Err Refusal.NoRoom) → ⊥
    by (Ok n) q h = grind arith
    by (Err w) q h =
        let k : w ≡ Refusal.NoRoom = grind arith in
        joins_room (both_of (book_layout log) (book_layout b)) (both_never _ _ (book_never log) (book_never b)) log b r.k r.joined e (q ∙ ap (λ (q : Refusal). Err q) k)

-- ---- with room 3 is not its answer
reconciled_room : (r : Round) (log : List ℕ) (b : Bytes log) (s : book_layout log ≡ (Ok tt)) (f : First r log) → Room r log
    → (reconcile_round r log (recovered_at log r.now)).answer ≡ (Err Refusal.NoRoom) → ⊥
unfolding reconcile_round
reconciled_room r log b s f m h = by (asked r log) refl (sym (ap (λ (v : (Result Reconciled Refusal)). (after_reconciling r log x v).answer) (asked_is r log b s f)) ∙ h)
  where
    x : Recovered
    x = recovered_at log r.now

    by : (v : (Result Reconciled Refusal)) → asked r log ≡ v → (after_reconciling r log x v).answer ≡ (Err Refusal.NoRoom) → ⊥
    by (Ok y) e h =
        let q = second_done r log b s f y e in
        third_room r log (addendum_of r log) (le-ltb r.joined (joined_length log (addendum_of r log) r.k) m.joined)
        (sym (ap (λ (o : Outcome). o.answer) (second_is r log b s f q)) ∙ ap (λ (v : (Result Reconciled Refusal)). (after_reconciling r log x v).answer) (asked_is r log b s f ∙ e) ∙ h)
    by (Err w) e h =
        let k : w ≡ Refusal.NoRoom = grind arith in
        answer_room r (64 * length (recovered log).orders) (recovered log).orders (recovered log).marks.number (addendum_of r log)
        (le-ltb r.addendum (length (addendum_of r log)) m.addendum) (e ∙ ap (λ (q : Refusal). Err q) k)

pub never_full : (r : Round) (log : List ℕ) → Bytes log → book_layout log ≡ (Ok tt) → time_layout r.now ≡ (Ok tt) → Room r log
    → (round_of r log).answer ≡ (Err Refusal.NoRoom) → ⊥
never_full r log b s t m h =
    let f : First r log = record { now = t; room = m.records } in
    reconciled_room r log b s f m (sym (ap (λ (o : Outcome). o.answer) (first_is r log s f)) ∙ h)

-- ---- the whole round
pub record Passed (r : Round) (log : List ℕ) : Type 0 where
  pub first : First r log
  pub second : Second r log
  pub third : Third r log (addendum_of r log)
  pub is : round_of r log ≡ join_round r log (addendum_of r log)

pub stages : (r : Round) (log : List ℕ) → Bytes log → book_layout log ≡ (Ok tt) → First r log → Second r log
    → round_of r log ≡ join_round r log (addendum_of r log)
stages r log b s f q = first_is r log s f ∙ second_is r log b s f q

pub passed : (r : Round) (log : List ℕ) → Bytes log → book_layout log ≡ (Ok tt) → passes r log ≡ true → Passed r log
passed r log b s h =
    let f = first_passed r log h in
    let h₂ = sym (ap (λ (o : Outcome). done o.answer) (first_is r log s f)) ∙ h in
    let q = second_passed r log b s f h₂ in
    let h₃ = sym (ap (λ (o : Outcome). done o.answer) (second_is r log b s f q)) ∙ h₂ in
    record { first = f; second = q; third = third_passed r log (addendum_of r log) s h₃; is = stages r log b s f q }

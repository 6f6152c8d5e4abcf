-- What every list of rounds does to a log: the proof of `Claim`. About no function.
-- Assumes nothing.
use Rattle.types.specs.declared.order.OrderId.{OrderId}
use Prim.Native.Nat.{ℕ, ◌+◌, ◌≤◌, ◌<◌}
use mathlib.Core.Path.{◌≡◌, sym, ap, ◌∙◌, subst}
use mathlib.Core.List.{List, [], ◌∷◌, ◌++◌, map}
use mathlib.Core.Bool.{true}
use native.Mathlib.Omega.{arith}
use lib.IntN.{ℤ, pos}
use lib.ListN.{length, take, drop}
use lib.Seq.{take-append_seam, drop-append_seam}
use Rattle.wire.proofs.Written.{Bytes, none, more}
use Rattle.wire.proofs.Records.{Each}
use Rattle.book.specs.Layout.{book_layout}
use Rattle.book.specs.Event.{text_of}
use Rattle.sheet.specs.declared.BrokerOrderStatus.{BrokerOrderStatus}
use Rattle.records.specs.Record.{flags_of}
use Rattle.records.specs.Search.{is_intent, count_where}
use Rattle.records.specs.declared.order.Order.{Order}
use Rattle.effects.specs.Event.{Event, events_of}
use Rattle.marks.specs.declared.Marks.{Marks}
use Rattle.recovery.specs.Recover.{first_state, state_of}
use Rattle.state.specs.State.{same_marks, same_order, same_lists, same_state}
use Rattle.sound_state.proofs.Tables.{and_both, each_map}
use Rattle.sound_state.proofs.Tabled.{text_length_lem}
use Rattle.sound_state.proofs.Good.{RefsIn}
use Rattle.sound_state.proofs.GoodBook.{state_good}
use Rattle.sound_state.proofs.Recovered.{timeless, time_apart}
use Rattle.sound_state.proofs.StateSound.{states_compared}
use Rattle.intents.specs.Intents.{chosen}
use Rattle.rounds.specs.Rounds.{Round, round_of, next, run}
use Rattle.demand3.specs.Demand3.{recovered, open_intents, NoRepeat, last_number, added, is_entry, OfIntents, Follow, Small, OneList, Fewer, Uncut, Room, same_recovered, Demand3}
use Rattle.demand3.specs.Claim.{AreBytes, Premises, equal_answer, Claim}
use Rattle.demand3.proofs.Settling.{Written, written_length, written_follow}
use Rattle.demand3.proofs.Progress.{Prog, prog_distinct, tally, tally_one, written_hits}
use Rattle.demand3.proofs.Ending.{ends_same, ends_flags}
use Rattle.demand3.proofs.Stepping.{steps_number, noted, marks_timeless, marks_same, positions_self}
use Rattle.demand3.proofs.Accepted.{book_accepted}
use Rattle.demand3.proofs.Leading.{Led, led_marks, led_positions, led_total, led_refl, led_trans}
use Rattle.demand3.proofs.Calls.{never_full}
use Rattle.demand3.proofs.OfIntents.{written_of}
use Rattle.demand3.proofs.OneRound.{led_next, round_fewer}
use Rattle.demand3.proofs.Uncut.{uncut_room, uncut_led, uncut_shut, uncut_exists}
use Rattle.std.specs.Prelude.{Ok, Err, Option}
use Rattle.wire.specs.declared.refusal.Refusal.TheVariants as Refusal

-- ---- two ways to the end agree
ends_read : {c : (Option OrderId)} (s t u v w : List ℕ) {os ps qs : List Order} → v ≡ s ++ t → w ≡ s ++ u → Each (RefsIn (length s)) os → Prog c v os ps → Prog c w os qs
    → count_where is_intent ps ≡ 0 → count_where is_intent qs ≡ 0 → same_lists (same_order v w) ps qs ≡ true
ends_read s t u v w p q f a b h k = rw (p, q) (ends_same s t u f (rw p at a) (rw q at b) h k)

pub led_same : {c : (Option OrderId)} {x y z : List ℕ} → Bytes x → book_layout x ≡ (Ok tt) → Led c x y → Led c x z → open_intents y ≡ 0 → open_intents z ≡ 0
    → same_recovered y z ≡ true
unfolding same_recovered same_state
led_same {c} {x} {y} {z} b s l m p q =
    let e : length l.symbols ≡ length m.symbols = omega (arith, led_total l, led_total m) in
    let marks : timeless (recovered y).marks ≡ timeless (recovered z).marks =
    led_marks l ∙ ap (λ (n : ℕ). noted c n (recovered x).marks) e ∙ sym (led_marks m) in
    let refs : Each (RefsIn (length (text_of x))) (recovered x).orders =
    subst (λ (n : ℕ). Each (RefsIn n) (recovered x).orders) (sym (text_length_lem x s)) (each_map (recovered x).orders (λ o g. g.refs) (state_good x (pos 0) b s).orders) in
    let positions : (recovered z).positions ≡ (recovered y).positions = led_positions m ∙ sym (led_positions l) in
    and_both
    (and_both (marks_same (recovered y).marks (recovered z).marks marks)
    (ends_read (text_of x) l.texts m.texts (text_of y) (text_of z) l.text m.text refs l.prog m.prog p q))
    (rw positions (positions_self (recovered y).positions))

-- ---- every list of rounds
module _ (broker : List BrokerOrderStatus) (small : Small (chosen broker)) where
  led_run : (rs : List Round) (x : List ℕ) → Bytes x → book_layout x ≡ (Ok tt) → NoRepeat (recovered x).orders → OneList broker rs x
      → Led (chosen broker) x (run rs x)
  unfolding run
  led_run [] x bx sx d one = led_refl x bx sx
  led_run (r ∷ rs) x bx sx d one =
      let l = led_next broker small r x bx sx d one.0 in
      led_trans l (led_run rs (next r x) l.bytes l.sound (prog_distinct l.prog d) one.1)

  run_fewer : (rs : List Round) (x : List ℕ) → Bytes x → book_layout x ≡ (Ok tt) → NoRepeat (recovered x).orders → OneList broker rs x → Fewer rs x
  run_fewer [] x bx sx d one = tt
  run_fewer (r ∷ rs) x bx sx d one =
      let l = led_next broker small r x bx sx d one.0 in
      (round_fewer broker small r x bx sx d one.0, run_fewer rs (next r x) l.bytes l.sound (prog_distinct l.prog d) one.1)

-- ---- the premises
pub bytes_of_lem : (s : List ℕ) → AreBytes s → Bytes s
bytes_of_lem [] h = none
bytes_of_lem (b ∷ s) h = more h.0 (bytes_of_lem s h.1)

module _ (broker : List BrokerOrderStatus) (rs : List Round) (log : List ℕ) (p : Premises broker rs log) where
  led : Led (chosen broker) log (run rs log)
  led = led_run broker p.small rs log (bytes_of_lem log p.bytes) p.formed p.apart p.one

  added_is : added log (run rs log) ≡ led.entries
  unfolding led
  added_is = ap (drop (length (events_of log))) led.events ∙ drop-append_seam (events_of log) led.entries

  written : Written (chosen broker) (text_of (run rs log)) (last_number 0 (events_of log)) led.symbols led.entries
  written =
      subst (λ (n : ℕ). Written (chosen broker) (text_of (run rs log)) n led.symbols led.entries) (steps_number (first_state (pos 0)) (events_of log))
      led.written

  -- ---- the conclusions
  of_rounds : Demand3 broker rs log
  of_rounds =
      let b = bytes_of_lem log p.bytes in
      record {
        formed = led.sound;
        kept = ap (take (length (events_of log))) led.events ∙ take-append_seam (events_of log) led.entries;
        accepted = λ h. book_accepted log (run rs log) p.formed led.sound led.events written h;
        once = λ y.
            subst (λ (es : List Event). count_where (is_entry y) es ≤ 1) (sym added_is)
            (omega (arith, written_hits y led.texted led.written, led.weight (tally y), tally_one y (recovered log).orders p.apart));
        entries =
            subst (OfIntents (recovered log).orders) (sym added_is)
            (written_of (recovered log).orders (λ z. omega (arith, led.weight (tally z))) led.texted led.written);
        total =
            subst (λ (es : List Event). length es + open_intents (run rs log) ≡ open_intents log) (sym added_is)
            (omega (arith, written_length led.written, led_total led));
        numbers = subst (Follow (last_number 0 (events_of log))) (sym added_is) (written_follow written);
        fewer = run_fewer broker p.small rs log b p.formed p.apart p.one;
        ends = λ e u c m.
            led_same b p.formed led (uncut_led broker p.small log b p.formed u c p.apart) e
            (uncut_shut broker p.small log b p.formed u c p.apart led e m);
      }

  module _ (e : open_intents (run rs log) ≡ 0) (u : Round) (c : Uncut broker log u) where
    -- unless the uncut round is refused by 3, it has the room that `ends` asks for
    pub unless_full : ((round_of u log).answer ≡ (Err Refusal.NoRoom) → ⊥) → 0 < open_intents log → Room u log
    unless_full = uncut_room broker p.small log (bytes_of_lem log p.bytes) p.formed u c led e

    -- the orders agree in the finer meaning too, which reads all five flags of each
    pub ends_finer : (0 < open_intents log → Room u log) → map flags_of (recovered (run rs log)).orders ≡ map flags_of (recovered (next u log)).orders
    ends_finer m =
        let b = bytes_of_lem log p.bytes in
        ends_flags led.prog (uncut_led broker p.small log b p.formed u c p.apart).prog e
        (uncut_shut broker p.small log b p.formed u c p.apart led e m)

-- ---- equality of recovered states is the entry's answer
same_whenever : (a b : List ℕ) (now then : ℤ)
    → same_state (text_of a) (text_of b) (state_of a now).marks (state_of b then).marks (state_of a now).orders (state_of b then).orders
    (state_of a now).positions (state_of b then).positions
    ≡ same_recovered a b
unfolding same_state same_recovered
same_whenever a b now then =
    let x = time_apart a now (pos 0) in
    let y = time_apart b then (pos 0) in
    let m : same_marks (state_of a now).marks (state_of b then).marks ≡ same_marks (recovered a).marks (recovered b).marks =
    sym (marks_timeless (state_of a now).marks (state_of b then).marks)
    ∙ ap (λ (v : Marks). same_marks v (timeless (state_of b then).marks)) x.marks
    ∙ ap (same_marks (timeless (recovered a).marks)) y.marks
    ∙ marks_timeless (recovered a).marks (recovered b).marks in
    rw (m, x.orders, y.orders, x.positions, y.positions)

pub recovered_equal : (a b : List ℕ) → AreBytes a → AreBytes b → book_layout a ≡ (Ok tt) → book_layout b ≡ (Ok tt) → (now then : ℤ)
    → equal_answer a (state_of a now) b (state_of b then) ≡ Ok (same_recovered a b)
recovered_equal a b p q s t now then =
    states_compared a b now then (bytes_of_lem a p) (bytes_of_lem b q) s t ∙ ap Ok (same_whenever a b now then)

-- ---- the theorem
pub demand3 : Claim
demand3 =
    record {
      rounds = of_rounds;
      room = λ r log b. never_full r log (bytes_of_lem log b);
      uncut = uncut_exists;
      equal = recovered_equal;
    }

-- Recovery of a log and of the entries after it: orders, positions and marks, each apart from the time that recovery begins with. About no function.
-- Assumes nothing.
use Rattle.types.specs.declared.order.OrderId.{OrderId}
use Prim.Native.Nat.{ℕ, zero, suc, ◌+◌}
use mathlib.Core.Path.{◌≡◌, refl, sym, ap, ◌∙◌}
use mathlib.Core.List.{List, [], ◌∷◌}
use mathlib.Core.Bool.{Bool, true, false}
use native.Mathlib.Omega.{arith}
use lib.IntN.{ℤ, pos}
use lib.ListN.{length}
use borrow.Author.Tests.{eq-eqb}
use mir.Syntax.{w64}
use mir.Val.{of_z}
use Rattle.symbol.specs.declared.Symbol.{Symbol}
use Rattle.checkpoint.specs.Checkpoint.{checkpoint_number}
use Rattle.checkpoint.specs.declared.Checkpoint.{Checkpoint}
use Rattle.checkpoint.specs.declared.Checkpoint.TheVariants.{OrderSubmitted, OrderFailed}
use Rattle.records.specs.declared.position.Position.{Position}
use Rattle.marks.specs.Marks.{marks_at}
use Rattle.marks.specs.declared.Marks.{Marks}
use Rattle.marks.specs.declared.Pair.{Pair}
use Rattle.effects.specs.Event.{Event}
use Rattle.effects.specs.Step.{marks_by, marks_step, positions_at, positions_by, positions_step}
use Rattle.recovery.specs.Recover.{State, step, steps}
use Rattle.state.specs.State.{same_truth, same_number, same_int, same_pair, same_marks, same_position, same_lists}
use Rattle.demand3.specs.Demand3.{number_after, last_number}
use Rattle.demand3.proofs.Entries.{entry_checkpoint, entry_event}
use Rattle.sound_state.proofs.Tables.{and_both}
use Rattle.sound_state.proofs.Recovered.{timeless}
use Rattle.demand3.proofs.Settling.{Written, end, more, orders_after, same_refl}
use Rattle.std.specs.Prelude.{Some, None, Option}

-- ---- orders and positions go by themselves
pub steps_orders : (st : State) (es : List Event) → (steps st es).orders ≡ orders_after es st.orders
unfolding steps orders_after
steps_orders st [] = refl
steps_orders st (e ∷ es) = steps_orders (step e st) es

-- ---- the number is the last checkpoint's
marks_number : (k : (Option Checkpoint)) (e : Event) (m : Marks) → (marks_by k e m).number ≡ number_after k e.number m.number
unfolding marks_by marks_at
marks_number None e m = refl
marks_number (Some k) e m = refl

pub steps_number : (st : State) (es : List Event) → (steps st es).marks.number ≡ last_number st.marks.number es
unfolding steps last_number
steps_number st [] = refl
steps_number st (e ∷ es) =
    steps_number (step e st) es ∙ ap (λ (n : ℕ). last_number n es) (marks_number e.checkpoint e st.marks)

-- ---- marks without their time, with this checkpoint and number
abbrev pub marked_at : Checkpoint → ℕ → Marks → Marks
marked_at k n m =
    record {
      checkpoint = k;
      number = n;
      time = pos 0;
      equity = m.equity;
      completed = m.completed;
      positions = m.positions;
      quotes = m.quotes;
      account = m.account;
      cancel = m.cancel;
      cancelfailed = m.cancelfailed;
    }

-- marks without their time, after so many entries
abbrev pub noted : Option OrderId → ℕ → Marks → Marks
noted c zero m = timeless m
noted c (suc k) m = marked_at (entry_checkpoint c) (m.number + suc k) m

pub noted_number : (c : (Option OrderId)) (k : ℕ) (m : Marks) → (noted c k m).number ≡ m.number + k
noted_number c zero m = omega arith
noted_number c (suc k) m = refl

noted_step : (c : (Option OrderId)) (k : ℕ) (time : ℤ) (n first : ℕ) (y : Symbol) (m : Marks) → m.number ≡ n
    → noted c k (marks_step (entry_event c time (suc n) first y) m) ≡ noted c (suc k) m
unfolding marks_by marks_at
noted_step (Some id) zero time n first y m h = ap (λ (x : ℕ). marked_at OrderSubmitted x m) (omega arith)
noted_step (Some id) (suc k) time n first y m h = ap (λ (x : ℕ). marked_at OrderSubmitted x m) (omega arith)
noted_step None zero time n first y m h = ap (λ (x : ℕ). marked_at OrderFailed x m) (omega arith)
noted_step None (suc k) time n first y m h = ap (λ (x : ℕ). marked_at OrderFailed x m) (omega arith)

entry_number : (c : (Option OrderId)) (time : ℤ) (n first : ℕ) (y : Symbol) (m : Marks) → (marks_step (entry_event c time n first y) m).number ≡ n
unfolding marks_by marks_at
entry_number c time n first y m = refl

entry_positions : (c : (Option OrderId)) (time : ℤ) (n first : ℕ) (y : Symbol) (ps : List Position) → positions_step (entry_event c time n first y) ps ≡ ps
unfolding positions_by positions_at
entry_positions (Some id) time n first y ps = refl
entry_positions None time n first y ps = refl

-- ---- the state after entries, from that before
pub steps_marks : {c : (Option OrderId)} {text : List ℕ} {n : ℕ} {ys : List Symbol} {es : List Event} (st : State) → st.marks.number ≡ n → Written c text n ys es
    → timeless (steps st es).marks ≡ noted c (length ys) st.marks
unfolding steps
steps_marks st h end = refl
steps_marks {c} st h (more {n} {y} {ys} {es} time first r w) =
    steps_marks (step (entry_event c time (suc n) first y) st) (entry_number c time (suc n) first y st.marks) w
    ∙ noted_step c (length ys) time n first y st.marks h

pub entries_positions : {c : (Option OrderId)} {text : List ℕ} {n : ℕ} {ys : List Symbol} {es : List Event} (st : State) → Written c text n ys es
    → (steps st es).positions ≡ st.positions
unfolding steps
entries_positions st end = refl
entries_positions {c} st (more {n} {y} {ys} {es} time first r w) =
    entries_positions (step (entry_event c time (suc n) first y) st) w ∙ entry_positions c time (suc n) first y st.positions

-- ---- marks that agree but for their time, and positions that agree
truth_self : (b : Bool) → same_truth b b ≡ true
truth_self true = refl
truth_self false = refl

number_self : (n : (Option ℕ)) → same_number n n ≡ true
number_self (Some n) = eq-eqb n n refl
number_self None = refl

int_self : (z : ℤ) → same_int z z ≡ true
int_self z = eq-eqb (of_z w64 z) (of_z w64 z) refl

pair_self : (p : Pair) → same_pair p p ≡ true
unfolding same_pair
pair_self p =
    and_both (and_both (and_both (truth_self p.intent) (truth_self p.result)) (number_self p.intended)) (number_self p.resulted)

marks_self : (m : Marks) → same_marks m m ≡ true
unfolding same_marks
marks_self m =
    and_both
    (and_both
    (and_both
    (and_both
    (and_both
    (and_both
    (and_both
    (and_both (eq-eqb (checkpoint_number m.checkpoint) (checkpoint_number m.checkpoint) refl) (eq-eqb m.number m.number refl))
    (int_self m.equity))
    (truth_self m.completed))
    (pair_self m.positions))
    (pair_self m.quotes))
    (pair_self m.account))
    (pair_self m.cancel))
    (truth_self m.cancelfailed)

pub marks_timeless : (m n : Marks) → same_marks (timeless m) (timeless n) ≡ same_marks m n
unfolding same_marks
marks_timeless m n = refl

pub marks_same : (m n : Marks) → timeless m ≡ timeless n → same_marks m n ≡ true
marks_same m n e = sym (marks_timeless m n) ∙ ap (same_marks (timeless m)) (sym e) ∙ marks_self (timeless m)

pub positions_self : (ps : List Position) → same_lists same_position ps ps ≡ true
unfolding same_lists same_position
positions_self [] = refl
positions_self (p ∷ ps) =
    and_both (and_both (and_both (same_refl p.symbol) (int_self p.quantity)) (int_self p.cost)) (positions_self ps)

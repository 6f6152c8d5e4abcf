-- Entries numbered after the last checkpoint keep an accepted log accepted. About no function.
-- Assumes nothing.
use Rattle.types.specs.declared.order.OrderId.{OrderId}
use Rattle.cell.specs.declared.ListRef.{ListRef}
use Rattle.std.specs.Prelude.{Option}
use Prim.Native.Nat.{ℕ, zero, suc, ◌+◌, ◌≤◌, ◌*◌}
use mathlib.Core.Path.{◌≡◌, refl, sym, ap, ◌∙◌}
use mathlib.Core.List.{List, [], ◌∷◌, ◌++◌, map}
use mathlib.Core.Bool.{Bool, true, false}
use native.Mathlib.Omega.{arith}
use lib.Dec.{eqb}
use lib.ListN.{drop}
use borrow.Author.Tests.{lt-ltb, ne_eqb}
use Rattle.wire.specs.Table.{records}
use Rattle.symbol.specs.declared.Symbol.{Symbol}
use Rattle.cell.specs.Cell.{as_array}
use Rattle.book.specs.Layout.{event_count, book_layout}
use Rattle.book.specs.Event.{events_in, rows_in, text_of, orders_cell}
use Rattle.checkpoint.specs.Checkpoint.{same_checkpoint}
use Rattle.checkpoint.specs.declared.Checkpoint.{Checkpoint}
use Rattle.checkpoint.specs.declared.Checkpoint.TheVariants.{RunStarted, PositionsIntent, PositionsResult, DiffComputed, RiskCheckPassed, OrderIntent, OrderSubmitted, OrderFailed, QuotesIntent, QuotesResult, AccountSummaryIntent, AccountSummaryResult, CancelIntent, CancelResult, RunCompleted}
use Rattle.effects.specs.Event.{row_of, Row, Event, rows_of, event_of, events_of}
use Rattle.audit.specs.Verdict.{Verdict, empty_list, Seen, seen_of, seen_in, or_else, rises, fault_at, last_after, walk, found_before, found, place_behind, place, empty_after, last_empty, rules, verdict_of, book_verdict}
use Rattle.demand3.specs.Demand3.{number_after, last_number}
use Rattle.demand3.proofs.Entries.{entry_checkpoint}
use Rattle.demand3.proofs.Settling.{Written, end, more}
use Rattle.std.specs.Prelude.{Some, None, Ok, Err}

-- ---- what validation reads of an event as recovery reads it
abbrev pub empty_rows : Option (List Row) → Bool
empty_rows None = false
empty_rows (Some []) = true
empty_rows (Some (r ∷ rs)) = false

abbrev pub seen_by : Event → Seen
seen_by e = record { checkpoint = e.checkpoint; number = e.number; empties = empty_rows e.orders }

empty_rows_lem : (rows text : List ℕ) (a : (Option ListRef)) → empty_list a ≡ empty_rows (rows_of rows text a)
unfolding records
empty_rows_lem rows text None = refl
empty_rows_lem rows text (Some l) = by l.count
  where
    by : (n : ℕ) → eqb n 0 ≡ empty_rows (Some (records (row_of text) 64 n (drop (64 * l.first) rows)))
    by zero = refl
    by (suc n) = ne_eqb (suc n) 0 (λ e. omega arith)

seen_records : (rows text : List ℕ) (n : ℕ) (s : List ℕ) → records (seen_of text) 240 n s ≡ map seen_by (records (event_of rows text) 240 n s)
unfolding records
seen_records rows text zero s = refl
seen_records rows text (suc n) s =
    rw (empty_rows_lem rows text (as_array (orders_cell s))) (ap (λ (l : List Seen). seen_by (event_of rows text s) ∷ l) (seen_records rows text n (drop 240 s)))

pub seen_events : (s : List ℕ) → seen_in s ≡ map seen_by (events_of s)
seen_events s = seen_records (rows_in s) (text_of s) (event_count s) (events_in s)

map-append : {A B : Type 0} (f : A → B) (xs ys : List A) → map f (xs ++ ys) ≡ map f xs ++ map f ys
map-append f [] ys = refl
map-append f (x ∷ xs) ys = ap (λ (l : List _). f x ∷ l) (map-append f xs ys)

-- ---- two faults that are none
or_accepted : (v w : Verdict) → or_else v w ≡ Ok tt → (v ≡ Ok tt) × (w ≡ Ok tt)
or_accepted (Ok u) w h = (refl, h)
or_accepted (Err e) w h = absurd (grind arith)

-- ---- the walk
abbrev Below : Option ℕ → ℕ → Type 0
Below None m = Unit
Below (Some l) m = l ≤ m

rises_below : (l : (Option ℕ)) (m : ℕ) → Below l m → rises l (suc m) ≡ true
rises_below None m b = refl
rises_below (Some l) m b = lt-ltb l (suc m) (omega arith)

below_after : (k : (Option Checkpoint)) (x l : (Option ℕ)) (m : ℕ) → Below l m → Below (last_after l k x) (number_after k x m)
below_after None x l m b = b
below_after (Some k) (Some n) l m b = omega arith
below_after (Some k) None l m b = tt

walk_written : {c : (Option OrderId)} {text : List ℕ} {n : ℕ} {ys : List Symbol} {es : List Event} → Written c text n ys es → (l : (Option ℕ)) (i : ℕ) → Below l n
    → walk i l (map seen_by es) ≡ Ok tt
unfolding walk
walk_written end l i b = refl
walk_written (more {n} {y} {ys} {es} time first r w) l i b = rw (rises_below l n b) (walk_written w (Some (suc n)) (i + 1) (omega arith))

walk_join : (ds : List Event) (ss : List Seen) (l : (Option ℕ)) (i m : ℕ) → Below l m → walk i l (map seen_by ds) ≡ Ok tt
    → ((p : (Option ℕ)) (j : ℕ) → Below p (last_number m ds) → walk j p ss ≡ Ok tt) → walk i l (map seen_by ds ++ ss) ≡ Ok tt
unfolding walk last_number
walk_join [] ss l i m b h f = f l i b
walk_join (e ∷ ds) ss l i m b h f =
    let p = or_accepted (fault_at i l e.checkpoint e.number) (walk (i + 1) (last_after l e.checkpoint e.number) (map seen_by ds)) h in
    let q =
    walk_join ds ss (last_after l e.checkpoint e.number) (i + 1) (number_after e.checkpoint e.number m)
    (below_after e.checkpoint e.number l m b) p.1 f in
    ap (λ (v : Verdict). or_else v (walk (i + 1) (last_after l e.checkpoint e.number) (map seen_by ds ++ ss))) p.0 ∙ q

-- ---- the checkpoints of entries are none that the rules ask for
found_append : (ss us : List Seen) → found (ss ++ us) ≡ found ss ++ found us
unfolding found
found_append [] us = refl
found_append (s ∷ ss) us = ap (found_before s.checkpoint) (found_append ss us) ∙ before s.checkpoint
  where
    before : (k : (Option Checkpoint)) → found_before k (found ss ++ found us) ≡ found_before k (found ss) ++ found us
    before None = refl
    before (Some k) = refl

place_written : {c : (Option OrderId)} {text : List ℕ} {n : ℕ} {ys : List Symbol} {es : List Event} (k : Checkpoint) → same_checkpoint k (entry_checkpoint c) ≡ false
    → Written c text n ys es → place k (found (map seen_by es)) ≡ 0
unfolding found place
place_written k h end = refl
place_written k h (more time first r w) = rw (h, place_written k h w)

place_join : (k : Checkpoint) (zs : List Checkpoint) → place k zs ≡ 0 → (cs : List Checkpoint) → place k (cs ++ zs) ≡ place k cs
unfolding place
place_join k zs h [] = h
place_join k zs h (j ∷ cs) = ap (place_behind (same_checkpoint k j)) (place_join k zs h cs)

rules_join : (c : (Option OrderId)) (empty : Bool) (cs zs : List Checkpoint) → ((k : Checkpoint) → same_checkpoint k (entry_checkpoint c) ≡ false → place k zs ≡ 0)
    → rules empty (cs ++ zs) ≡ rules empty cs
unfolding rules
rules_join c empty cs zs h =
    let at : (k : Checkpoint) → same_checkpoint k OrderSubmitted ≡ false → same_checkpoint k OrderFailed ≡ false → place k (cs ++ zs) ≡ place k cs =
    λ k p q. place_join k zs (h k (other c k p q)) cs in
    by empty (at RunStarted refl refl) (at DiffComputed refl refl) (at PositionsIntent refl refl) (at PositionsResult refl refl)
    (at RiskCheckPassed refl refl) (at OrderIntent refl refl) (at RunCompleted refl refl) (at AccountSummaryIntent refl refl)
    (at AccountSummaryResult refl refl) (at QuotesIntent refl refl) (at QuotesResult refl refl) (at CancelIntent refl refl) (at CancelResult refl refl)
  where
    other : (c : (Option OrderId)) (k : Checkpoint) → same_checkpoint k OrderSubmitted ≡ false → same_checkpoint k OrderFailed ≡ false
        → same_checkpoint k (entry_checkpoint c) ≡ false
    other (Some id) k p q = p
    other None k p q = q

    by : (empty : Bool) → place RunStarted (cs ++ zs) ≡ place RunStarted cs → place DiffComputed (cs ++ zs) ≡ place DiffComputed cs
        → place PositionsIntent (cs ++ zs) ≡ place PositionsIntent cs → place PositionsResult (cs ++ zs) ≡ place PositionsResult cs
        → place RiskCheckPassed (cs ++ zs) ≡ place RiskCheckPassed cs → place OrderIntent (cs ++ zs) ≡ place OrderIntent cs
        → place RunCompleted (cs ++ zs) ≡ place RunCompleted cs → place AccountSummaryIntent (cs ++ zs) ≡ place AccountSummaryIntent cs
        → place AccountSummaryResult (cs ++ zs) ≡ place AccountSummaryResult cs → place QuotesIntent (cs ++ zs) ≡ place QuotesIntent cs
        → place QuotesResult (cs ++ zs) ≡ place QuotesResult cs → place CancelIntent (cs ++ zs) ≡ place CancelIntent cs
        → place CancelResult (cs ++ zs) ≡ place CancelResult cs → rules empty (cs ++ zs) ≡ rules empty cs
    by true a b d e f g h i j k l m n = rw (a, b, d, e, h, i, j, k, l, m, n)
    by false a b d e f g h i j k l m n = rw (a, b, d, e, f, g, i, j, k, l, m, n)

-- and none of them is a DiffComputed
empty_written : {c : (Option OrderId)} {text : List ℕ} {n : ℕ} {ys : List Symbol} {es : List Event} (b : Bool) → Written c text n ys es → last_empty b (map seen_by es) ≡ b
unfolding last_empty
empty_written b end = refl
empty_written {c} b (more {es} time first r w) = ap (λ (x : Bool). last_empty x (map seen_by es)) (no_diff c b) ∙ empty_written b w
  where
    no_diff : (c : (Option OrderId)) (b : Bool) → empty_after b (Some (entry_checkpoint c)) false ≡ b
    no_diff (Some id) b = refl
    no_diff None b = refl

empty_append : (b : Bool) (ss us : List Seen) → last_empty b (ss ++ us) ≡ last_empty (last_empty b ss) us
unfolding last_empty
empty_append b [] us = refl
empty_append b (s ∷ ss) us = empty_append (empty_after b s.checkpoint s.empties) ss us

-- ---- the verdict
pub verdict_join : {c : (Option OrderId)} {text : List ℕ} {ys : List Symbol} {es : List Event} (ds : List Event) → Written c text (last_number 0 ds) ys es
    → verdict_of (map seen_by ds) ≡ Ok tt → verdict_of (map seen_by (ds ++ es)) ≡ Ok tt
unfolding verdict_of
verdict_join {c} {es} ds w h =
    let ss = map seen_by ds in
    let us = map seen_by es in
    let p = or_accepted (walk 1 None ss) (rules (last_empty false ss) (found ss)) h in
    let a : walk 1 None (ss ++ us) ≡ Ok tt = walk_join ds us None 1 0 tt p.0 (λ l j b. walk_written w l j b) in
    let e : last_empty false (ss ++ us) ≡ last_empty false ss = empty_append false ss us ∙ empty_written (last_empty false ss) w in
    let r : rules (last_empty false ss) (found ss ++ found us) ≡ rules (last_empty false ss) (found ss) =
    rules_join c (last_empty false ss) (found ss) (found us) (λ k q. place_written k q w) in
    rw (map-append seen_by ds es, a, e, found_append ss us, r) p.1

pub book_accepted : {c : (Option OrderId)} {text : List ℕ} {ys : List Symbol} {es : List Event} (x y : List ℕ) → book_layout x ≡ (Ok tt) → book_layout y ≡ (Ok tt)
    → events_of y ≡ events_of x ++ es → Written c text (last_number 0 (events_of x)) ys es → book_verdict x ≡ Ok tt → book_verdict y ≡ Ok tt
unfolding book_verdict
book_accepted {es} x y p q e w h =
    let k : verdict_of (map seen_by (events_of x)) ≡ Ok tt = ap verdict_of (sym (seen_events x)) ∙ (rw p at h) in
    rw q (ap verdict_of (seen_events y ∙ ap (map seen_by) e) ∙ verdict_join (events_of x) w k)

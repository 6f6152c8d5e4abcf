-- What entries do to a list of orders that repeats no symbol: each order stays as it was, or was an open intent and is settled. About no function.
-- Assumes nothing.
use Rattle.cell.specs.declared.TextRef.{TextRef}
use Prim.Native.Nat.{ℕ, zero, suc, ◌+◌, ◌^◌, ◌≤◌, ◌<◌}
use mathlib.Core.Path.{◌≡◌, refl, sym, ap, ◌∙◌, subst}
use mathlib.Core.List.{List, [], ◌∷◌, ◌++◌}
use mathlib.Core.Bool.{Bool, true, false, cond, not, ◌&&◌}
use native.Mathlib.Omega.{arith}
use lib.Dec.{eqb}
use lib.IntN.{ℤ}
use lib.ListN.{length, take, length-append}
use borrow.Author.Tests.{lt-ltb, eqb-true, eqb-false, eq-eqb, ne_eqb}
use mir.Syntax.{w64}
use mir.Val.{to_z}
use Rattle.wire.specs.Le.{le, bytes_of}
use Rattle.wire.proofs.Written.{le_bytes_of}
use Rattle.wire.proofs.Records.{Each}
use Rattle.wire.proofs.Records as Of
use Rattle.symbol.specs.Symbol.{same_symbol, symbol_is}
use Rattle.symbol.specs.declared.Symbol.{Symbol}
use Rattle.wire.proofs.Bools.{and_left, and_right, and_false, or_left, or_right}
use Rattle.types.specs.declared.order.OrderId.{OrderId}
use Rattle.cell.specs.Cell.{cell_by, cell_of, as_i64, text_in}
use Rattle.records.specs.Record.{present}
use Rattle.records.specs.Search.{is_intent, any_where, change_first, has_text}
use Rattle.records.specs.declared.order.Order.{Order}
use Rattle.effects.specs.Event.{Event}
use Rattle.effects.specs.Step.{as_submitted, as_failed, submitted_by, orders_step, orders_by, orders_at}
use Rattle.intents.specs.Intents.{symbol_text, entry_name, reason_text, cell_bytes}
use Rattle.rounds.proofs.Answers.{by_bool}
use Rattle.demand3.specs.Demand3.{has_symbol, Follow, Small}
use Rattle.demand3.proofs.JoinEvents.{text_kept}
use Rattle.demand3.proofs.Entries.{Texted, entry_id, entry_reason, entry_event}
use Rattle.std.specs.Prelude.{Some, None, Option}

-- ---- an order that an entry settled; the reason of a failed one reads as the entry's text
abbrev pub settle : Option OrderId → Option TextRef → Order → Order
settle (Some id) a o = as_submitted (to_z w64 id.0) o
settle None a o = as_failed a o

abbrev pub Reads : Option OrderId → List ℕ → Option TextRef → Type 0
Reads (Some id) text a = Unit
Reads None text None = ⊥
Reads None text (Some r) = (r.first + r.len ≤ length text) × (text_in text r ≡ reason_text None)

and_not : (a b : Bool) → (a && b && false) ≡ false
and_not a b = and_false (a && b)

and_mid : (a b : Bool) → (a && false && b) ≡ false
and_mid true b = refl
and_mid false b = refl

pub settle_shut : (c : (Option OrderId)) (a : (Option TextRef)) (o : Order) → is_intent (settle c a o) ≡ false
settle_shut (Some id) a o = and_mid (present o.client) (not o.failed)
settle_shut None a o = and_not (present o.client) (not o.submitted)

pub settle_symbol : (c : (Option OrderId)) (a : (Option TextRef)) (o : Order) → (settle c a o).symbol ≡ o.symbol
settle_symbol (Some id) a o = refl
settle_symbol None a o = refl

-- it does so where more stands after the text
pub reads_more : (c : (Option OrderId)) (s t : List ℕ) (a : (Option TextRef)) → Reads c s a → Reads c (s ++ t) a
reads_more (Some id) s t a h = tt
reads_more None s t None h = h
reads_more None s t (Some r) h = (omega (arith, length-append s t, h.0), text_kept s t r h.0 ∙ h.1)

-- ---- symbols
pub same_sym : (y z : Symbol) → same_symbol y z ≡ same_symbol z y
same_sym y z = rw (eqb_sym y.word z.word, eqb_sym y.len z.len)
  where
    eqb_sym : (a b : ℕ) → eqb a b ≡ eqb b a
    eqb_sym a b =
        by_bool (eqb b a) (λ e. rw e (eq-eqb a b (sym (eqb-true b a e)))) (λ e. rw e (ne_eqb a b (λ q. eqb-false b a e (sym q))))

pub same_refl : (y : Symbol) → same_symbol y y ≡ true
same_refl y = rw (eq-eqb y.word y.word refl, eq-eqb y.len y.len refl)

pub same_is : (y z : Symbol) → same_symbol y z ≡ true → y ≡ z
same_is y z h =
    let a = eqb-true y.word z.word (and_left (eqb y.word z.word) (eqb y.len z.len) h) in
    let b = eqb-true y.len z.len (and_right (eqb y.word z.word) (eqb y.len z.len) h) in
    λ i. record { word = a i; len = b i }

-- the text of a symbol is that symbol's
pub text_is : (y z : Symbol) → Texted z → symbol_is y (symbol_text z) ≡ same_symbol y z
text_is y z t = rw (t.word, t.len)

-- ---- an entry's effect on the orders
small_id : (id : ℕ) → id < 2 ^ 63 → as_i64 (cell_of (bytes_of 8 1 ++ bytes_of 8 id)) ≡ Some (to_z w64 id)
unfolding cell_of cell_by le bytes_of
small_id id h =
    let k : le 8 (bytes_of 8 id ++ []) ≡ id = le_bytes_of 8 id [] (omega arith) in
    ap (λ (x : ℕ). Some (to_z w64 x)) k

pub entry_id_lem : (id : OrderId) → id.0 < 2 ^ 63 → entry_id (Some id) ≡ Some (to_z w64 id.0)
entry_id_lem id h =
    ap (λ (b : Bool). as_i64 (cell_of (cond b (cell_bytes 1 id.0) (cell_bytes 2 id.0)))) (lt-ltb id.0 (2 ^ 63) h) ∙ small_id id.0 h

pub entry_orders : (c : (Option OrderId)) (time : ℤ) (n first : ℕ) (y : Symbol) (os : List Order) → Small c
    → orders_step (entry_event c time n first y) os
    ≡ change_first (has_text (symbol_text y)) (settle c (entry_reason c (first + length (entry_name c) + y.len))) os
unfolding orders_by orders_at
entry_orders (Some id) time n first y os h = ap (λ (x : (Option ℤ)). submitted_by x (Some (symbol_text y)) os) (entry_id_lem id h)
entry_orders None time n first y os h = refl

-- ---- entries for these symbols, numbered after n, whose reasons read as their text; their times and places are free
pub data Written (c : (Option OrderId)) (text : List ℕ) : ℕ → List Symbol → List Event → Type 0 where
  end : {n : ℕ} → Written c text n [] []
  more : {n : ℕ} {y : Symbol} {ys : List Symbol} {es : List Event} (time : ℤ) (first : ℕ)
      → Reads c text (entry_reason c (first + length (entry_name c) + y.len)) → Written c text (suc n) ys es
      → Written c text n (y ∷ ys) (entry_event c time (suc n) first y ∷ es)

pub written_more : {c : (Option OrderId)} {s : List ℕ} (t : List ℕ) {n : ℕ} {ys : List Symbol} {es : List Event} → Written c s n ys es → Written c (s ++ t) n ys es
written_more t end = end
written_more {c} {s} t (more {y} time first r w) =
    more time first (reads_more c s t (entry_reason c (first + length (entry_name c) + y.len)) r) (written_more t w)

pub written_append : {c : (Option OrderId)} {text : List ℕ} {n m : ℕ} {ys zs : List Symbol} {es fs : List Event} → Written c text n ys es → m ≡ n + length ys
    → Written c text m zs fs → Written c text n (ys ++ zs) (es ++ fs)
written_append {c} {text} {zs} {fs} (end {n}) e v = subst (λ (x : ℕ). Written c text x zs fs) (omega arith) v
written_append (more time first r w) e v = more time first r (written_append w (omega arith) v)

pub written_length : {c : (Option OrderId)} {text : List ℕ} {n : ℕ} {ys : List Symbol} {es : List Event} → Written c text n ys es → length es ≡ length ys
written_length end = refl
written_length (more time first r w) = ap suc (written_length w)

pub written_follow : {c : (Option OrderId)} {text : List ℕ} {n : ℕ} {ys : List Symbol} {es : List Event} → Written c text n ys es → Follow n es
written_follow end = tt
written_follow (more time first r w) = (refl, written_follow w)

-- the orders after these events
unfoldable pub orders_after : List Event → List Order → List Order
unfolding orders_by
orders_after [] os = os
orders_after (e ∷ es) os = orders_after es (orders_step e os)

-- ---- an order that none of these symbols names
abbrev pub Avoid : List Symbol → Order → Type 0
Avoid [] o = Unit
Avoid (y ∷ ys) o = (has_text (symbol_text y) o ≡ false) × Avoid ys o

pub skipped : {c : (Option OrderId)} {text : List ℕ} {n : ℕ} {ys : List Symbol} {es : List Event} → Small c → (o : Order) (os : List Order) → Avoid ys o
    → Written c text n ys es → orders_after es (o ∷ os) ≡ o ∷ orders_after es os
unfolding orders_after change_first
skipped sm o os h end = refl
skipped {c} sm o os h (more {n} {y} {ys} {es} time first r w) =
    let a = entry_reason c (first + length (entry_name c) + y.len) in
    rw (entry_orders c time (suc n) first y (o ∷ os) sm, entry_orders c time (suc n) first y os sm, h.0)
    (skipped sm o (change_first (has_text (symbol_text y)) (settle c a) os) h.1 w)

pub avoid_settled : (c : (Option OrderId)) (a : (Option TextRef)) (ys : List Symbol) (o : Order) → Avoid ys o → Avoid ys (settle c a o)
avoid_settled c a [] o h = tt
avoid_settled c a (y ∷ ys) o h = (ap (λ (z : Symbol). symbol_is z (symbol_text y)) (settle_symbol c a o) ∙ h.0, avoid_settled c a ys o h.1)

-- ---- symbols of open intents among these orders, in their order
pub data Among : List Order → List Symbol → Type 0 where
  stop : {os : List Order} → Among os []
  pass : {o : Order} {os : List Order} {ys : List Symbol} → Among os ys → Among (o ∷ os) ys
  pick : {o : Order} {os : List Order} {ys : List Symbol} → is_intent o ≡ true → Among os ys → Among (o ∷ os) (o.symbol ∷ ys)

pub among_take : (k : ℕ) {os : List Order} {ys : List Symbol} → Among os ys → Among os (take k ys)
among_take zero m = stop
among_take (suc k) stop = stop
among_take (suc k) (pass m) = pass (among_take (suc k) m)
among_take (suc k) (pick e m) = pick e (among_take k m)

-- P of each order's symbol is P of these
pub among_each : {P : Symbol → Type 0} {os : List Order} {ys : List Symbol} → Among os ys → Each (λ (o : Order). P o.symbol) os → Each P ys
among_each stop h = Of.none
among_each (pass m) (Of.more p h) = among_each m h
among_each (pick e m) (Of.more p h) = Of.more p (among_each m h)

pub among_avoid : (o : Order) {os : List Order} {ys : List Symbol} → Among os ys → Each (λ (o : Order). Texted o.symbol) os
    → any_where (has_symbol o.symbol) os ≡ false → Avoid ys o
unfolding any_where
among_avoid o stop t h = tt
among_avoid o (pass {o = p} {os} m) (Of.more x t) h = among_avoid o m t (or_right (has_symbol o.symbol p) (any_where (has_symbol o.symbol) os) h)
among_avoid o (pick {o = p} {os} e m) (Of.more x t) h =
    let q = or_left (has_symbol o.symbol p) (any_where (has_symbol o.symbol) os) h in (
      text_is o.symbol p.symbol x ∙ same_sym o.symbol p.symbol ∙ q,
      among_avoid o m t (or_right (has_symbol o.symbol p) (any_where (has_symbol o.symbol) os) h),
    )

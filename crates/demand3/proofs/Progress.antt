-- Progress: each order as it was, or an open intent settled. What it keeps, what the open intents weigh, and where it ends. About no function.
-- Assumes nothing.
use Rattle.types.specs.declared.order.OrderId.{OrderId}
use Rattle.cell.specs.declared.TextRef.{TextRef}
use Prim.Native.Nat.{ℕ, zero, suc, ◌+◌, ◌≤◌, zero-le}
use mathlib.Core.Path.{◌≡◌, refl, sym, ap, ◌∙◌}
use mathlib.Core.List.{List, [], ◌∷◌, ◌++◌}
use mathlib.Core.Bool.{Bool, true, false, false≢true}
use native.Mathlib.Omega.{arith}
use lib.IntN.{ℤ}
use lib.ListN.{length, take, replicate, length-append}
use Rattle.wire.proofs.Bools.{or_left, or_right}
use Rattle.wire.proofs.Records.{Each}
use Rattle.wire.proofs.Records as Of
use Rattle.symbol.specs.Symbol.{same_symbol}
use Rattle.symbol.specs.declared.Symbol.{Symbol}
use Rattle.records.specs.Search.{is_intent, count_where, count_if, any_where, change_first, has_text}
use Rattle.records.specs.declared.order.Order.{Order}
use Rattle.effects.specs.Event.{Event}
use Rattle.intents.specs.Intents.{symbol_text, entry_name, entry_text, entry_texts, query, reconcile_order_intent, Queried, reached_if, reached}
use Rattle.rounds.proofs.Answers.{by_bool}
use Rattle.demand3.specs.Demand3.{has_symbol, NoRepeat, is_entry, Small}
use Rattle.demand3.proofs.Entries.{Texted, entry_reason, entry_event}
use Rattle.demand3.proofs.Settling.{settle, Reads, settle_shut, settle_symbol, reads_more, same_sym, same_refl, same_is, text_is, entry_orders, Written, end, more, orders_after, skipped, avoid_settled, Among, stop, pass, pick, among_avoid}
use Rattle.std.specs.Prelude.{Option}

pub data Prog (c : (Option OrderId)) (text : List ℕ) : List Order → List Order → Type 0 where
  done : Prog c text [] []
  keep : {o : Order} {os ps : List Order} → Prog c text os ps → Prog c text (o ∷ os) (o ∷ ps)
  shut : {o : Order} {os ps : List Order} (a : (Option TextRef)) → is_intent o ≡ true → Reads c text a → Prog c text os ps
      → Prog c text (o ∷ os) (settle c a o ∷ ps)

pub prog_refl : {c : (Option OrderId)} {text : List ℕ} (os : List Order) → Prog c text os os
prog_refl [] = done
prog_refl (o ∷ os) = keep (prog_refl os)

pub prog_more : {c : (Option OrderId)} {s : List ℕ} (t : List ℕ) {os ps : List Order} → Prog c s os ps → Prog c (s ++ t) os ps
prog_more t done = done
prog_more t (keep p) = keep (prog_more t p)
prog_more {c} {s} t (shut a e r p) = shut a e (reads_more c s t a r) (prog_more t p)

pub prog_trans : {c : (Option OrderId)} {text : List ℕ} {os ps qs : List Order} → Prog c text os ps → Prog c text ps qs → Prog c text os qs
prog_trans done q = q
prog_trans (keep p) (keep q) = keep (prog_trans p q)
prog_trans (keep p) (shut a h r q) = shut a h r (prog_trans p q)
prog_trans (shut a h r p) (keep q) = shut a h r (prog_trans p q)
prog_trans {c} (shut {o} a h r p) (shut b h' r' q) = absurd (false≢true (sym (settle_shut c a o) ∙ h'))

-- as many orders, and no symbol repeated that was not
pub prog_length : {c : (Option OrderId)} {text : List ℕ} {os ps : List Order} → Prog c text os ps → length ps ≡ length os
prog_length done = refl
prog_length (keep p) = ap suc (prog_length p)
prog_length (shut a e r p) = ap suc (prog_length p)

prog_apart : {c : (Option OrderId)} {text : List ℕ} (y : Symbol) {os ps : List Order} → Prog c text os ps → any_where (has_symbol y) ps ≡ any_where (has_symbol y) os
unfolding any_where
prog_apart y done = refl
prog_apart y (keep p) = rw (prog_apart y p)
prog_apart {c} y (shut {o} a e r p) = rw (settle_symbol c a o, prog_apart y p)

pub prog_distinct : {c : (Option OrderId)} {text : List ℕ} {os ps : List Order} → Prog c text os ps → NoRepeat os → NoRepeat ps
prog_distinct done h = tt
prog_distinct (keep {o} p) h = (prog_apart o.symbol p ∙ h.0, prog_distinct p h.1)
prog_distinct {c} (shut {o} {os} {ps} a e r p) h =
    (ap (λ (y : Symbol). any_where (has_symbol y) ps) (settle_symbol c a o) ∙ prog_apart o.symbol p ∙ h.0, prog_distinct p h.1)

-- ---- weights of the open intents, by their symbols
abbrev pub weight_if : Bool → ℕ → ℕ → ℕ
weight_if true w n = w + n
weight_if false w n = n

unfoldable pub open_weight : (Symbol → ℕ) → List Order → ℕ
open_weight w [] = 0
open_weight w (o ∷ os) = weight_if (is_intent o) (w o.symbol) (open_weight w os)

unfoldable pub sum : (Symbol → ℕ) → List Symbol → ℕ
sum w [] = 0
sum w (y ∷ ys) = w y + sum w ys

abbrev pub one : Symbol → ℕ
one y = 1

pub weight_open : (w : Symbol → ℕ) (o : Order) (os : List Order) → is_intent o ≡ true → open_weight w (o ∷ os) ≡ w o.symbol + open_weight w os
unfolding open_weight
weight_open w o os e = rw e

pub weight_shut : (w : Symbol → ℕ) (o : Order) (os : List Order) → is_intent o ≡ false → open_weight w (o ∷ os) ≡ open_weight w os
unfolding open_weight
weight_shut w o os e = rw e

pub weight_count : (os : List Order) → open_weight one os ≡ count_where is_intent os
unfolding open_weight count_where
weight_count [] = refl
weight_count (o ∷ os) = by_bool (is_intent o) (λ e. rw (e, weight_count os) (omega arith)) (λ e. rw (e, weight_count os))

pub sum_one : (ys : List Symbol) → sum one ys ≡ length ys
unfolding sum
sum_one [] = refl
sum_one (y ∷ ys) = omega (arith, sum_one ys)

pub sum_append : (w : Symbol → ℕ) (ys zs : List Symbol) → sum w (ys ++ zs) ≡ sum w ys + sum w zs
unfolding sum
sum_append w [] zs = omega arith
sum_append w (y ∷ ys) zs = omega (arith, sum_append w ys zs)

pub sum_take : (w : Symbol → ℕ) (k : ℕ) (ys : List Symbol) → sum w (take k ys) ≤ sum w ys
unfolding sum
sum_take w zero ys = zero-le
sum_take w (suc k) [] = zero-le
sum_take w (suc k) (y ∷ ys) = omega (arith, sum_take w k ys)

-- a head that stays adds the same to both
weight_both : (w : Symbol → ℕ) (o : Order) (os ps : List Order) → open_weight w (o ∷ ps) + open_weight w os ≡ open_weight w (o ∷ os) + open_weight w ps
weight_both w o os ps =
    by_bool (is_intent o) (λ e. omega (arith, weight_open w o os e, weight_open w o ps e)) (λ e. omega (arith, weight_shut w o os e, weight_shut w o ps e))

-- ---- entries for symbols among the open intents
head_hit : (c : (Option OrderId)) (first : ℕ) (o : Order) (os : List Order) → Texted o.symbol
    → change_first (has_text (symbol_text o.symbol)) (settle c (entry_reason c (first + length (entry_name c) + o.symbol.len))) (o ∷ os)
    ≡ settle c (entry_reason c (first + length (entry_name c) + o.symbol.len)) o ∷ os
unfolding change_first
head_hit c first o os t = rw (text_is o.symbol o.symbol t ∙ same_refl o.symbol)

-- where the first of them stands at the head
pub written_head : {c : (Option OrderId)} {text : List ℕ} (time : ℤ) (n first : ℕ) (o : Order) (os : List Order) {ys : List Symbol} {es : List Event} → Small c
    → Among os ys → Each (λ (o : Order). Texted o.symbol) (o ∷ os) → NoRepeat (o ∷ os) → Written c text (suc n) ys es
    → orders_after (entry_event c time (suc n) first o.symbol ∷ es) (o ∷ os)
    ≡ settle c (entry_reason c (first + length (entry_name c) + o.symbol.len)) o ∷ orders_after es os
unfolding orders_after
written_head {c = c} time n first o os {ys} {es} sm m (Of.more x t) d w =
    let a = entry_reason c (first + length (entry_name c) + o.symbol.len) in
    ap (orders_after es) (entry_orders c time (suc n) first o.symbol (o ∷ os) sm ∙ head_hit c first o os x)
    ∙ skipped sm (settle c a o) os (avoid_settled c a ys o (among_avoid o m t d.0)) w

pub round_prog : {c : (Option OrderId)} {text : List ℕ} {n : ℕ} {os : List Order} {ys : List Symbol} {es : List Event} → Small c → Among os ys
    → Each (λ (o : Order). Texted o.symbol) os → NoRepeat os → Written c text n ys es → Prog c text os (orders_after es os)
unfolding orders_after
round_prog {n = n} {os} sm stop t d end = prog_refl os
round_prog {n = n} sm (pass {o} {os} m) (Of.more x t) d w = rw (skipped sm o os (among_avoid o m t d.0) w) (keep (round_prog {n = n} sm m t d.1 w))
round_prog {c} {n = n} sm (pick {o} {os} e m) (Of.more x t) d (more time first r w) =
    rw (written_head {c = c} time n first o os sm m (Of.more x t) d w)
    (shut (entry_reason c (first + length (entry_name c) + o.symbol.len)) e r (round_prog {n = suc n} sm m t d.1 w))

pub round_weight : (w : Symbol → ℕ) {c : (Option OrderId)} {text : List ℕ} {n : ℕ} {os : List Order} {ys : List Symbol} {es : List Event} → Small c → Among os ys
    → Each (λ (o : Order). Texted o.symbol) os → NoRepeat os → Written c text n ys es → sum w ys + open_weight w (orders_after es os) ≡ open_weight w os
unfolding orders_after sum
round_weight w {n = n} sm stop t d end = omega arith
round_weight w {n = n} {ys} {es} sm (pass {o} {os} m) (Of.more x t) d v =
    rw (skipped sm o os (among_avoid o m t d.0) v) (omega (arith, weight_both w o os (orders_after es os), round_weight w {n = n} sm m t d.1 v))
round_weight w {c} {n = n} sm (pick {o} {os} e m) (Of.more x t) d (more {y} {ys} {es} time first r v) =
    let a = entry_reason c (first + length (entry_name c) + o.symbol.len) in
    rw (written_head {c = c} time n first o os sm m (Of.more x t) d v)
    (omega (arith, weight_open w o os e, weight_shut w (settle c a o) (orders_after es os) (settle_shut c a o), round_weight w {n = suc n} sm m t d.1 v))

-- ---- the intents that were reached are among the open ones
reached_if_lem : {o : Order} {os : List Order} (q : Queried) (rest : List ℕ → List Symbol) → is_intent o ≡ true → ((qs : List ℕ) → Among os (rest qs))
    → Among (o ∷ os) (reached_if q o.symbol rest)
reached_if_lem q rest e h = by_bool q.answered (λ a. rw a (pick e (h q.left))) (λ a. rw a (pass (h q.left)))

pub reached_among : (failed : Bool) (os : List Order) (qs : List ℕ) → Among os (reached failed os qs)
unfolding reached
reached_among failed [] qs = stop
reached_among failed (o ∷ os) qs =
    by_bool (is_intent o)
    (λ e. rw e (reached_if_lem (reconcile_order_intent failed qs) (reached failed os) e (λ z. reached_among failed os z)))
    (λ e. rw e (pass (reached_among failed os qs)))

-- a 0 for each intent reaches all
pub reached_all : (os : List Order) (n : ℕ) → n ≡ count_where is_intent os → length (reached false os (replicate n 0)) ≡ count_where is_intent os
unfolding reached query count_where
reached_all [] n e = refl
reached_all (o ∷ os) zero e =
    by_bool (is_intent o) (λ y. absurd (omega (arith, rw y at e))) (λ y. rw y (reached_all os 0 (rw y at e)))
reached_all (o ∷ os) (suc n) e =
    by_bool (is_intent o) (λ y. rw y (ap suc (reached_all os n (omega (arith, rw y at e))))) (λ y. rw y (reached_all os (suc n) (rw y at e)))

-- ---- at most one open intent has a symbol, and so has at most one entry
unfoldable pub tally : Symbol → Symbol → ℕ
tally y x = count_if (same_symbol y x) 0

none_left : (o : Order) (os : List Order) → any_where (has_symbol o.symbol) os ≡ false → open_weight (tally o.symbol) os ≡ 0
unfolding open_weight any_where tally
none_left o [] h = refl
none_left o (p ∷ ps) h =
    let a = or_left (has_symbol o.symbol p) (any_where (has_symbol o.symbol) ps) h in
    let b = or_right (has_symbol o.symbol p) (any_where (has_symbol o.symbol) ps) h in
    let no : same_symbol o.symbol p.symbol ≡ false = same_sym o.symbol p.symbol ∙ a in
    by_bool (is_intent p) (λ y. rw (y, no) (omega (arith, none_left o ps b))) (λ y. rw y (none_left o ps b))

pub tally_one : (y : Symbol) (os : List Order) → NoRepeat os → open_weight (tally y) os ≤ 1
unfolding tally
tally_one y [] d = unfold open_weight in zero-le
tally_one y (o ∷ os) d =
    by_bool (is_intent o)
    (λ i. by_bool (same_symbol y o.symbol)
    (λ e.
    let q : open_weight (tally y) os ≡ 0 = rw (same_is y o.symbol e) (none_left o os d.0) in
    omega (arith, rw e at (weight_open (tally y) o os i)))
    (λ e. omega (arith, rw e at (weight_open (tally y) o os i), tally_one y os d.1)))
    (λ i. omega (arith, weight_shut (tally y) o os i, tally_one y os d.1))

count_if_lem : (b : Bool) (n : ℕ) → count_if b n ≡ count_if b 0 + n
count_if_lem true n = omega arith
count_if_lem false n = omega arith

pub written_hits : (y : Symbol) {c : (Option OrderId)} {text : List ℕ} {n : ℕ} {ys : List Symbol} {es : List Event} → Each Texted ys → Written c text n ys es
    → count_where (is_entry y) es ≡ sum (tally y) ys
unfolding count_where sum tally
written_hits y t end = refl
written_hits y (Of.more x t) (more {y = z} {ys} {es} time first r w) =
    rw (text_is y z x) (count_if_lem (same_symbol y z) (count_where (is_entry y) es) ∙ ap (λ (m : ℕ). count_if (same_symbol y z) 0 + m) (written_hits y t w))

-- where none is open, the open weigh nothing
pub weight_none : (w : Symbol → ℕ) (os : List Order) → count_where is_intent os ≡ 0 → open_weight w os ≡ 0
unfolding open_weight count_where
weight_none w [] h = refl
weight_none w (o ∷ os) h = by_bool (is_intent o) (λ e. absurd (omega (arith, rw e at h))) (λ e. rw e (weight_none w os (rw e at h)))

-- symbols among the open intents weigh at most what all of them do
pub among_weight : (w : Symbol → ℕ) {os : List Order} {ys : List Symbol} → Among os ys → sum w ys ≤ open_weight w os
unfolding sum
among_weight w stop = zero-le
among_weight w (pass {o} {os} m) =
    by_bool (is_intent o) (λ e. omega (arith, weight_open w o os e, among_weight w m)) (λ e. omega (arith, weight_shut w o os e, among_weight w m))
among_weight w (pick {o} {os} e m) = omega (arith, weight_open w o os e, among_weight w m)

-- an entry's text, and the texts of entries
abbrev pub text_weight : Option OrderId → Symbol → ℕ
text_weight c y = length (entry_text c y)

pub texts_length : (c : (Option OrderId)) (ys : List Symbol) → length (entry_texts c ys) ≡ sum (text_weight c) ys
unfolding entry_texts sum
texts_length c [] = refl
texts_length c (y ∷ ys) = length-append (entry_text c y) (entry_texts c ys) ∙ ap (λ (m : ℕ). length (entry_text c y) + m) (texts_length c ys)

-- Two ways on from the same orders, each to its own text, that leave none open: the orders are equal as states are compared. About no function.
-- Assumes nothing.
use Rattle.types.specs.declared.order.OrderId.{OrderId}
use Prim.Native.Nat.{ℕ, ◌+◌}
use mathlib.Core.Path.{◌≡◌, refl, sym, ap, ◌∙◌}
use mathlib.Core.List.{List, [], ◌∷◌, ◌++◌, map}
use mathlib.Core.Bool.{Bool, true}
use native.Mathlib.Omega.{arith}
use lib.IntN.{ℤ}
use lib.ListN.{length}
use borrow.Author.Tests.{eq-eqb}
use mir.Syntax.{w64}
use mir.Val.{of_z}
use Rattle.wire.specs.Le.{same_bytes}
use Rattle.wire.proofs.Records.{Each}
use Rattle.wire.proofs.Records as Of
use Rattle.symbol.specs.Symbol.{same_symbol}
use Rattle.cell.specs.Cell.{text_in}
use Rattle.cell.specs.declared.TextRef.{TextRef}
use Rattle.records.specs.Record.{flag, flags_of, present}
use Rattle.records.specs.Search.{is_intent, count_where}
use Rattle.records.specs.declared.order.Order.{Order}
use Rattle.effects.specs.Step.{as_failed}
use Rattle.state.specs.State.{same_int, read_flags, text_or, same_texts, same_order, same_lists}
use Rattle.rounds.proofs.Answers.{by_bool}
use Rattle.sound_state.proofs.Tables.{and_both}
use Rattle.sound_state.proofs.Good.{RefIn, StrIn, RefsIn}
use Rattle.demand3.proofs.JoinEvents.{text_kept}
use Rattle.demand3.proofs.Settling.{settle, Reads, same_refl}
use Rattle.demand3.proofs.Progress.{Prog, done, keep, shut}
use Rattle.std.specs.Prelude.{Some, None, Option}

-- ---- references read the same whatever stands after the text
ref_same : (s t u : List ℕ) (r : TextRef) → RefIn (length s) r → text_in (s ++ t) r ≡ text_in (s ++ u) r
ref_same s t u r h = text_kept s t r h ∙ sym (text_kept s u r h)

str_same : (s t u : List ℕ) (a : (Option TextRef)) → StrIn (length s) a → text_or (s ++ t) a ≡ text_or (s ++ u) a
str_same s t u (Some r) h = ref_same s t u r h
str_same s t u None h = refl

-- ---- equal fields make equal orders
bytes_self : (t : List ℕ) → same_bytes t t ≡ true
unfolding same_bytes
bytes_self [] = refl
bytes_self (b ∷ t) = and_both (eq-eqb b b refl) (bytes_self t)

pub bytes_same : (s t : List ℕ) → s ≡ t → same_bytes s t ≡ true
bytes_same s t e = rw e (bytes_self t)

same_order_lem : (s t : List ℕ) (o p : Order) → same_symbol o.symbol p.symbol ≡ true → read_flags o ≡ read_flags p
    → o.id ≡ p.id → o.shares ≡ p.shares → o.limit ≡ p.limit
    → text_in s o.action ≡ text_in t p.action → text_or s o.client ≡ text_or t p.client → text_or s o.reason ≡ text_or t p.reason
    → same_order s t o p ≡ true
unfolding same_order same_texts
same_order_lem s t o p y f i n l a c r =
    and_both
    (and_both (and_both (and_both (and_both y (eq-eqb (read_flags o) (read_flags p) f)) (int i)) (int n)) (int l))
    (and_both (and_both (bytes_same _ _ a) (bytes_same _ _ c)) (bytes_same _ _ r))
  where
    int : {x z : ℤ} → x ≡ z → same_int x z ≡ true
    int {x} {z} e = rw e (eq-eqb (of_z w64 z) (of_z w64 z) refl)

-- ---- an order that was kept, and one that was settled
kept_same : (s t u : List ℕ) (o : Order) → RefsIn (length s) o → same_order (s ++ t) (s ++ u) o o ≡ true
kept_same s t u o h =
    same_order_lem (s ++ t) (s ++ u) o o (same_refl o.symbol) refl refl refl refl (ref_same s t u o.action h.action)
    (str_same s t u o.client h.client) (str_same s t u o.reason h.reason)

reads_same : (s t : List ℕ) (a b : (Option TextRef)) → Reads None s a → Reads None t b → text_or s a ≡ text_or t b
reads_same s t None b h k = absurd h
reads_same s t (Some q) None h k = absurd k
reads_same s t (Some q) (Some r) h k = h.1 ∙ sym k.1

settled_same : (c : (Option OrderId)) (s t u : List ℕ) (o : Order) (a b : (Option TextRef)) → RefsIn (length s) o → Reads c (s ++ t) a → Reads c (s ++ u) b
    → same_order (s ++ t) (s ++ u) (settle c a o) (settle c b o) ≡ true
settled_same (Some id) s t u o a b h p q =
    kept_same s t u (settle (Some id) a o) (record { action = h.action; client = h.client; reason = h.reason })
settled_same None s t u o a b h p q =
    same_order_lem (s ++ t) (s ++ u) (as_failed a o) (as_failed b o) (same_refl o.symbol) refl refl refl refl (ref_same s t u o.action h.action)
    (str_same s t u o.client h.client) (reads_same (s ++ t) (s ++ u) a b p q)

-- ---- none is open
count_open : (o : Order) (os : List Order) → is_intent o ≡ true → count_where is_intent (o ∷ os) ≡ 0 → ⊥
unfolding count_where
count_open o os e h = omega (arith, rw e at h)

count_tail : (o : Order) (os : List Order) → count_where is_intent (o ∷ os) ≡ 0 → count_where is_intent os ≡ 0
unfolding count_where
count_tail o os h = by_bool (is_intent o) (λ e. absurd (omega (arith, rw e at h))) (λ e. rw e at h)

pub ends_same : {c : (Option OrderId)} (s t u : List ℕ) {os ps qs : List Order} → Each (RefsIn (length s)) os → Prog c (s ++ t) os ps → Prog c (s ++ u) os qs
    → count_where is_intent ps ≡ 0 → count_where is_intent qs ≡ 0 → same_lists (same_order (s ++ t) (s ++ u)) ps qs ≡ true
unfolding same_lists
ends_same s t u f done done a b = refl
ends_same s t u (Of.more f fs) (keep {o} {ps} p) (keep {ps = qs} q) a b =
    and_both (kept_same s t u o f) (ends_same s t u fs p q (count_tail o ps a) (count_tail o qs b))
ends_same s t u f (keep {o} {ps} p) (shut x e r q) a b = absurd (count_open o ps e a)
ends_same s t u f (shut x e r p) (keep {o} {ps} q) a b = absurd (count_open o ps e b)
ends_same {c} s t u (Of.more f fs) (shut {o} {ps} x e r p) (shut {ps = qs} z e' r' q) a b =
    and_both (settled_same c s t u o x z f r r') (ends_same s t u fs p q (count_tail (settle c x o) ps a) (count_tail (settle c z o) qs b))

-- ---- the flags agree too, all five of them
reads_present : (s t : List ℕ) (a b : (Option TextRef)) → Reads None s a → Reads None t b → present a ≡ present b
reads_present s t None b h k = absurd h
reads_present s t (Some q) None h k = absurd k
reads_present s t (Some q) (Some r) h k = refl

settled_flags : (c : (Option OrderId)) (s t : List ℕ) (o : Order) (a b : (Option TextRef)) → Reads c s a → Reads c t b → flags_of (settle c a o) ≡ flags_of (settle c b o)
settled_flags (Some id) s t o a b p q = refl
settled_flags None s t o a b p q =
    ap (λ (v : Bool). flag o.submitted 1 + flag o.filled 2 + flag true 4 + flag (present o.client) 8 + flag v 16) (reads_present s t a b p q)

pub ends_flags : {c : (Option OrderId)} {s t : List ℕ} {os ps qs : List Order} → Prog c s os ps → Prog c t os qs → count_where is_intent ps ≡ 0 → count_where is_intent qs ≡ 0
    → map flags_of ps ≡ map flags_of qs
ends_flags done done a b = refl
ends_flags (keep {o} {ps} p) (keep {ps = qs} q) a b =
    ap (λ (l : List ℕ). flags_of o ∷ l) (ends_flags p q (count_tail o ps a) (count_tail o qs b))
ends_flags (keep {o} {ps} p) (shut x e r q) a b = absurd (count_open o ps e a)
ends_flags (shut x e r p) (keep {o} {ps} q) a b = absurd (count_open o ps e b)
ends_flags {c} {s} {t} (shut {o} {ps} x e r p) (shut {ps = qs} z e' r' q) a b =
    ap (λ (n : ℕ). n ∷ map flags_of ps) (settled_flags c s t o x z r r')
    ∙ ap (λ (l : List ℕ). flags_of (settle c z o) ∷ l) (ends_flags p q (count_tail (settle c x o) ps a) (count_tail (settle c z o) qs b))

-- Entries that weigh, symbol by symbol, no more than the open intents are entries of open intents. About no function.
-- Assumes nothing.
use Rattle.types.specs.declared.order.OrderId.{OrderId}
use Prim.Native.Nat.{ℕ, suc, ◌≤◌, ◌<◌}
use mathlib.Core.Path.{◌≡◌, refl}
use mathlib.Core.List.{List, [], ◌∷◌}
use mathlib.Core.Bool.{Bool, true, false, ◌&&◌, ◌||◌}
use native.Mathlib.Omega.{arith}
use Rattle.wire.proofs.Records.{Each}
use Rattle.wire.proofs.Records as Of
use Rattle.symbol.specs.Symbol.{same_symbol}
use Rattle.symbol.specs.declared.Symbol.{Symbol}
use Rattle.records.specs.Search.{is_intent, any_where}
use Rattle.records.specs.declared.order.Order.{Order}
use Rattle.effects.specs.Event.{Event}
use Rattle.rounds.proofs.Answers.{by_bool}
use Rattle.demand3.specs.Demand3.{is_entry, of_intent, OfIntents}
use Rattle.demand3.proofs.Entries.{Texted, entry_event}
use Rattle.demand3.proofs.Settling.{Written, end, more, text_is, same_sym, same_refl}
use Rattle.demand3.proofs.Progress.{open_weight, sum, tally, weight_open, weight_shut}
use Rattle.std.specs.Prelude.{Option}

-- ---- a symbol that weighs among the open intents is one of theirs
or_true : (a : Bool) → (a || true) ≡ true
or_true true = refl
or_true false = refl

other_weight : (z : Symbol) (o : Order) (os : List Order) → is_intent o ≡ true → same_symbol z o.symbol ≡ false → open_weight (tally z) (o ∷ os) ≡ open_weight (tally z) os
unfolding tally
other_weight z o os i s = omega (arith, rw s at (weight_open (tally z) o os i))

no_weight : (z : Symbol) → open_weight (tally z) [] ≡ 0
unfolding open_weight
no_weight z = refl

named_of : (z : Symbol) (e : Event) (os : List Order) → ((y : Symbol) → is_entry y e ≡ same_symbol y z) → 0 < open_weight (tally z) os → of_intent os e ≡ true
unfolding any_where
named_of z e [] h w = absurd (omega (arith, no_weight z, w))
named_of z e (o ∷ os) h w =
    by_bool (is_intent o)
    (λ i. by_bool (same_symbol z o.symbol)
    (λ s. rw (i, h o.symbol, same_sym o.symbol z, s))
    (λ s.
    let q : 0 < open_weight (tally z) os = omega (arith, other_weight z o os i s, w) in
    rw (named_of z e os h q) (or_true (is_intent o && is_entry o.symbol e))))
    (λ i.
    let q : 0 < open_weight (tally z) os = omega (arith, weight_shut (tally z) o os i, w) in
    rw (named_of z e os h q) (or_true (is_intent o && is_entry o.symbol e)))

tally_head : (z : Symbol) (ys : List Symbol) → 0 < sum (tally z) (z ∷ ys)
unfolding sum tally
tally_head z ys = rw (same_refl z) (omega arith)

tally_tail : (x z : Symbol) (ys : List Symbol) → sum (tally x) ys ≤ sum (tally x) (z ∷ ys)
unfolding sum
tally_tail x z ys = omega arith

-- ---- so each entry is one's
pub written_of : {c : (Option OrderId)} {text : List ℕ} {n : ℕ} {ys : List Symbol} {es : List Event} (os : List Order)
    → ((z : Symbol) → sum (tally z) ys ≤ open_weight (tally z) os) → Each Texted ys → Written c text n ys es → OfIntents os es
written_of os h t end = tt
written_of {c} os h (Of.more x t) (more {n} {y = z} {ys} {es} time first r w) = (
  named_of z (entry_event c time (suc n) first z) os (λ y. text_is y z x) (omega (arith, tally_head z ys, h z)),
  written_of os (λ y. omega (arith, tally_tail y z ys, h y)) t w,
)

-- The definition computed: held value.
-- Assumes nothing.
use Prim.Native.Nat.{◌-◌, ◌^◌}
use mathlib.Core.Path.{◌≡◌, refl}
use mathlib.Core.List.{[], ◌∷◌, ◌++◌}
use lib.IntN.{pos, negsuc}
use Rattle.wire.specs.Le.{le, bytes_of}
use Rattle.wire.specs.Table.{every, records}
use Rattle.symbol.specs.Symbol.{wide_field_ok, bytes_before}
use Rattle.drift.specs.Rows.{valued}
use Rattle.drift.proofs.DriftExamples.{row, position}
use Rattle.held.specs.Value.{held_of}
use Rattle.std.specs.Prelude.{Ok, Err}
use Rattle.wire.specs.declared.refusal.Refusal.TheVariants as Refusal

-- a running sum may leave i64, a product and the total may not
held_sum : held_of (position (65 ∷ []) (pos (2 ^ 62)) ++ position (66 ∷ []) (pos (2 ^ 62)) ++ position (67 ∷ []) (negsuc 9)) (row (65 ∷ []) 1 ++ row (66 ∷ []) 1 ++ row (67 ∷ []) 1)
    ≡ Ok (pos (2 ^ 63 - 10))
unfolding held_of le bytes_of every records wide_field_ok bytes_before valued
held_sum = refl

held_total : held_of (position (65 ∷ []) (pos (2 ^ 62)) ++ position (66 ∷ []) (pos (2 ^ 62))) (row (65 ∷ []) 1 ++ row (66 ∷ []) 1) ≡ (Err Refusal.Overflow)
unfolding held_of le bytes_of every records wide_field_ok bytes_before valued
held_total = refl

held_product : held_of (position (65 ∷ []) (pos (2 ^ 62))) (row (65 ∷ []) 4) ≡ (Err Refusal.Overflow)
unfolding held_of le bytes_of every records wide_field_ok bytes_before valued
held_product = refl

-- the last price is 0 and hides the one before
held_hidden : held_of (position (65 ∷ []) (pos (2 ^ 62))) (row (65 ∷ []) 4 ++ row (65 ∷ []) 0) ≡ Ok (pos 0)
unfolding held_of le bytes_of every records wide_field_ok bytes_before valued
held_hidden = refl

-- Held value by its tests: each product, then the total.
-- Assumes nothing.
use mathlib.Core.Path.{◌≡◌}
use mathlib.Core.Bool.{true, false}
use mathlib.Core.List.{List}
use lib.IntN.{ℤ}
use Rattle.drift.specs.Symbols.{all_where}
use Rattle.drift.specs.Entry.{fits64}
use Rattle.drift.proofs.Answers.{value_if}
use Rattle.held.specs.Value.{total, value_of}
use Rattle.std.specs.Prelude.{Err}
use Rattle.wire.specs.declared.refusal.Refusal.TheVariants as Refusal

module _ (zs : List ℤ) where
  pub value_product : all_where fits64 zs ≡ false → (Err Refusal.Overflow) ≡ value_of zs
  unfolding value_of
  value_product e = rw e

  pub value_all : all_where fits64 zs ≡ true → value_if (fits64 (total zs)) (total zs) ≡ value_of zs
  unfolding value_of
  value_all e = rw e

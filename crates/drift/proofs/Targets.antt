-- The targets' weights, one after the other.
-- Assumes nothing.
use Prim.Native.Nat.{ℕ, zero, suc}
use mathlib.Core.Path.{◌≡◌, refl}
use mathlib.Core.List.{List}
use mathlib.Core.Bool.{Bool}
use lib.Ieee.{Float, binary64, of_bits}
use lib.ListN.{drop}
use Rattle.wire.specs.Le.{le}
use Rattle.wire.specs.Table.{every, records}
use Rattle.drift.specs.Rows.{row_of, valued}
use Rattle.drift.specs.Symbols.{all_where}
use Rattle.drift.specs.Report.{values}

pub weights_every : (f : Float → Bool) (n : ℕ) (d : List ℕ)
    → every (λ (s : List ℕ). f (of_bits binary64 (le 8 (drop 16 s)))) 24 n d ≡ all_where f (values (valued (of_bits binary64) (records row_of 24 n d)))
unfolding every all_where values valued records
weights_every f zero d = refl
weights_every f (suc n) d = rw (weights_every f n (drop 24 d))

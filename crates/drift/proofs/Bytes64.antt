-- An entry's record: 64 bytes, in two halves.
-- Assumes nothing.
use Prim.Native.Nat.{ℕ, ◌+◌}
use mathlib.Core.Path.{◌≡◌, sym, ap, ◌∙◌}
use mathlib.Core.List.{List, ◌++◌, append_assoc}
use lib.Ieee.{binary64, to_bits}
use lib.ListN.{length, length-append}
use lib.Seq.{sets}
use mir.Syntax.{w64}
use mir.Val.{of_z}
use Rattle.wire.specs.Le.{bytes_of}
use Rattle.wire.proofs.Written.{length_bytes_of}
use Rattle.wire.proofs.Records.{sets_append}
use Rattle.symbol.specs.declared.Symbol.{Symbol}
use Rattle.drift.specs.Entry.{entry_bytes}
use Rattle.drift.specs.declared.entry.ReconcileEntry.{ReconcileEntry}

abbrev pub first_half : Symbol → ReconcileEntry → List ℕ
first_half y e =
    bytes_of 8 y.word ++ bytes_of 8 y.len ++ bytes_of 8 (to_bits binary64 e.target_weight) ++ bytes_of 8 (to_bits binary64 e.actual_weight)

abbrev pub last_half : ReconcileEntry → List ℕ
last_half e =
    bytes_of 8 (to_bits binary64 e.diff_weight) ++ bytes_of 8 (of_z w64 e.target_shares) ++ bytes_of 8 (of_z w64 e.actual_shares)
    ++ bytes_of 8 (of_z w64 e.diff_shares)

halves : (y : Symbol) (e : ReconcileEntry) → entry_bytes y e ≡ first_half y e ++ last_half e
unfolding entry_bytes
halves y e = simp append_assoc

first_size : (y : Symbol) (e : ReconcileEntry) → length (first_half y e) ≡ 32
first_size y e = simp (length-append, length_bytes_of)

pub entry_size : (y : Symbol) (e : ReconcileEntry) → length (entry_bytes y e) ≡ 64
unfolding entry_bytes
entry_size y e = simp (length-append, length_bytes_of)

pub two_halves : (d : List ℕ) (at : ℕ) (y : Symbol) (e : ReconcileEntry)
    → sets (sets d at (first_half y e)) (at + 32) (last_half e) ≡ sets d at (entry_bytes y e)
two_halves d at y e =
    sym (ap (sets d at) (halves y e) ∙ sets_append d (first_half y e) (last_half e) at
    ∙ ap (λ (k : ℕ). sets (sets d at (first_half y e)) (at + k) (last_half e)) (first_size y e))

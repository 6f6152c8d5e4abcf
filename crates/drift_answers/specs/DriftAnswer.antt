-- The numbers of drift's answers and of a held value: the refusal, and two. Definitions only.
use Rattle.std.specs.Prelude.{ℕ, Ok, Err, Result, ℤ}
use Rattle.std.specs.Float.{binary64}
use Rattle.std.specs.Float.Ieee.{to_bits}
use Rattle.std.specs.Int.{w64}
use Rattle.std.proofs.Common.{of_z}
use Rattle.drift.specs.declared.report.Drifted.{Drifted}
use Rattle.wire.specs.Layout.{refusal_number}
use Rattle.wire.specs.declared.refusal.Refusal.{Refusal}

-- how many entries, and the bits of the tracking error
abbrev pub drift_numbers : Result Drifted Refusal → ℕ × ℕ × ℕ
drift_numbers (Ok d) = (0, d.count, to_bits binary64 d.tracking_error_pct)
drift_numbers (Err r) = (refusal_number r, 0, 0)

-- the value, as 64 bits
abbrev pub held_numbers : Result ℤ Refusal → ℕ × ℕ × ℕ
held_numbers (Ok z) = (0, of_z w64 z, 0)
held_numbers (Err r) = (refusal_number r, 0, 0)

-- One symbol's drift, by the Rust's operations in the Rust's order, and its record.
-- Assumes nothing.
use Rattle.std.specs.Prelude.{ℕ, ◌^◌, List, ◌++◌, Bool, true, cond, ◌&&◌, ltb, ℤ, pos, ◌-ℤ◌, ◌*ℤ◌, Float}
use Rattle.std.specs.Int.Signed.{lt_z, mag}
use Rattle.std.specs.Float.{binary64}
use Rattle.std.specs.Float.Ieee.{sub, mul, div, le, neg, of_int, of_bits, to_bits, to_signed}
use Rattle.std.specs.Int.{w64}
use Rattle.std.proofs.Common.{of_z}
use Rattle.wire.specs.Le.{bytes_of}
use Rattle.float.specs.Bits.{is_finite}
use Rattle.symbol.specs.Symbol.{wide_field_bytes}
use Rattle.symbol.specs.declared.Symbol.{Symbol}
use Rattle.drift.specs.declared.entry.ReconcileEntry.{ReconcileEntry}

-- what is known of a symbol: the last quantity, target and price, and +0.0 or 0 where there is none
pub record Line : Type 0 where
  pub symbol : Symbol
  pub quantity : ℤ
  pub weight : Float
  pub price : ℤ

-- an i64: from -2 ^ 63 up to but excluding 2 ^ 63
abbrev pub fits64 : ℤ → Bool
fits64 z = ltb (mag z) (2 ^ 63)

-- refusal 11's test: finite, and within 1,000 either way
unfoldable pub weight_ok : Float → Bool
unfolding le neg of_int
weight_ok w = is_finite w && le (neg (of_int binary64 (pos 1000))) w && le w (of_int binary64 (pos 1000))

-- the product is needed with equity and price above 0 only
abbrev pub needed : ℤ → ℤ → Bool
needed price equity = lt_z (pos 0) equity && lt_z (pos 0) price

-- `(actual_qty * price) as f64 / equity_cents as f64`
unfoldable pub actual_weight : ℤ → ℤ → ℤ → Float
unfolding div of_int of_bits
actual_weight quantity price equity =
    cond (needed price equity) (div binary64 (of_int binary64 (quantity *ℤ price)) (of_int binary64 equity)) (of_bits binary64 0)

-- `(equity_cents as f64 * target_weight / price as f64) as i64`, also for equity below 0
unfoldable pub target_shares : Float → ℤ → ℤ → ℤ
unfolding div mul of_int to_signed
target_shares weight price equity =
    cond (lt_z (pos 0) price) (to_signed 63 (div binary64 (mul binary64 (of_int binary64 equity) weight) (of_int binary64 price))) (pos 0)

unfoldable pub entry_of : ℤ → Float → ℤ → ℤ → ReconcileEntry
unfolding actual_weight target_shares sub
entry_of quantity weight price equity =
    record {
      target_weight = weight;
      actual_weight = actual_weight quantity price equity;
      diff_weight = sub binary64 (actual_weight quantity price equity) weight;
      target_shares = target_shares weight price equity;
      actual_shares = quantity;
      diff_shares = quantity -ℤ target_shares weight price equity;
    }

-- refusal 12's test: a product that is needed, and the share difference
unfoldable pub entry_fits : ℤ → Float → ℤ → ℤ → Bool
unfolding target_shares
entry_fits quantity weight price equity =
    cond (needed price equity) (fits64 (quantity *ℤ price)) true && fits64 (quantity -ℤ target_shares weight price equity)

abbrev pub line_entry : ℤ → Line → ReconcileEntry
line_entry equity l = entry_of l.quantity l.weight l.price equity

abbrev pub line_fits : ℤ → Line → Bool
line_fits equity l = entry_fits l.quantity l.weight l.price equity

-- symbol 16, target, actual and difference bits, target, actual, difference shares: 64 bytes
unfoldable pub entry_bytes : Symbol → ReconcileEntry → List ℕ
unfolding to_bits
entry_bytes y e =
    wide_field_bytes y ++ bytes_of 8 (to_bits binary64 e.target_weight) ++ bytes_of 8 (to_bits binary64 e.actual_weight)
    ++ bytes_of 8 (to_bits binary64 e.diff_weight) ++ bytes_of 8 (of_z w64 e.target_shares) ++ bytes_of 8 (of_z w64 e.actual_shares)
    ++ bytes_of 8 (of_z w64 e.diff_shares)

abbrev pub line_bytes : ℤ → Line → List ℕ
line_bytes equity l = entry_bytes l.symbol (line_entry equity l)

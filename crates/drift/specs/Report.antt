-- `reconcile`: a line for each symbol that is held or targeted, in symbol order, its entry, and the tracking error.
-- Assumes nothing.
use Rattle.std.specs.Prelude.{ℕ, ◌*◌, max, ◌≡◌, List, [], ◌∷◌, ◌++◌, map, cond, leb, ℤ, pos, Float, length, replicate}
use Rattle.std.specs.Float.{binary64}
use Rattle.std.specs.Float.Ieee.{add, mul, div, of_int, of_bits}
use Rattle.wire.specs.Table.{encoded, padded}
use Rattle.wire.specs.Layout.{Layout, both_of}
use Rattle.float.specs.Root.{sqrt}
use Rattle.symbol.specs.declared.Symbol.{Symbol}
use Rattle.drift.specs.Rows.{held_in, targets_in, prices_in, rows_layout}
use Rattle.drift.specs.Symbols.{last_of, keys, sorted_with, symbols_of, all_where}
use Rattle.drift.specs.Entry.{Line, weight_ok, entry_of, entry_fits, line_entry, line_fits, line_bytes}
use Rattle.drift.specs.declared.entry.ReconcileEntry.{ReconcileEntry}
use Rattle.drift.specs.declared.report.Drifted.{Drifted}
use Rattle.std.specs.Prelude.{Ok, Err, Result}
use Rattle.wire.specs.declared.refusal.Refusal.{Refusal}

-- ---- the lines
abbrev pub line_of : List (Symbol × ℤ) → List (Symbol × Float) → List (Symbol × ℤ) → Symbol → Line
line_of held targets prices y =
    record { symbol = y; quantity = last_of (pos 0) y held; weight = last_of (of_bits binary64 0) y targets; price = last_of (pos 0) y prices }

unfoldable pub lines_of : List (Symbol × ℤ) → List (Symbol × Float) → List (Symbol × ℤ) → List Line
unfolding last_of keys sorted_with
lines_of held targets prices = map (line_of held targets prices) (symbols_of (keys held ++ keys targets))

-- ---- the tracking error
-- `sum_sq_diff += diff_weight * diff_weight`, entry by entry
unfoldable pub squares : Float → List ReconcileEntry → Float
unfolding add mul
squares s [] = s
squares s (e ∷ es) = squares (add binary64 s (mul binary64 e.diff_weight e.diff_weight)) es

-- `(sum_sq_diff / all_symbols.len().max(1) as f64).sqrt() * 100.0`
unfoldable pub tracking_error : Float → ℕ → Float
unfolding mul div sqrt of_int
tracking_error s n = mul binary64 (sqrt binary64 (div binary64 s (of_int binary64 (pos (max n 1))))) (of_int binary64 (pos 100))

abbrev pub drifted : ℕ → Float → Drifted
drifted n x = record { count = n; tracking_error_pct = x }

-- ---- refusals 12 and 3, or the count and the tracking error
unfoldable pub report_of : List Line → ℤ → ℕ → Result Drifted Refusal
unfolding all_where squares tracking_error entry_fits entry_of
report_of lines equity room =
    cond (all_where (line_fits equity) lines)
    (cond (leb (64 * length lines) room)
    (Ok (drifted (length lines) (tracking_error (squares (of_bits binary64 0) (map (line_entry equity) lines)) (length lines)))) (Err Refusal.NoRoom))
    (Err Refusal.Overflow)

-- ---- refusals 1 and 2, then 11
abbrev pub after_layout : Layout → Result Drifted Refusal → Result Drifted Refusal
after_layout (Err q) r = Err q
after_layout (Ok u) r = r

-- the second parts of rows
unfoldable pub values : {B : Type 0} → List (Symbol × B) → List B
values [] = []
values (r ∷ rs) = r.1 ∷ values rs

abbrev pub lists_layout : List ℕ → List ℕ → List ℕ → Layout
lists_layout positions targets prices = both_of (rows_layout 32 positions) (both_of (rows_layout 24 targets) (rows_layout 24 prices))

unfoldable pub drift_of : List ℕ → List ℕ → List ℕ → ℤ → ℕ → Result Drifted Refusal
unfolding lines_of report_of values rows_layout weight_ok
drift_of positions targets prices equity room =
    after_layout (lists_layout positions targets prices)
    (cond (all_where weight_ok (values (targets_in targets)))
    (report_of (lines_of (held_in positions) (targets_in targets) (prices_in prices)) equity room)
    (Err Refusal.BadWeight))

-- ---- the output: the records and zeros after them, and zeros alone on refusal
abbrev pub output_of : Result Drifted Refusal → List Line → ℤ → ℕ → List ℕ
output_of (Ok d) lines equity room = padded room (encoded (line_bytes equity) lines)
output_of (Err q) lines equity room = replicate room 0

-- an answer and a buffer at exit, by the lines
abbrev pub Reported : Result Drifted Refusal → List ℕ → List Line → ℤ → ℕ → Type 0
Reported r after lines equity room = (r ≡ report_of lines equity room) × (after ≡ output_of r lines equity room)

unfoldable pub drift_bytes : List ℕ → List ℕ → List ℕ → ℤ → ℕ → List ℕ
unfolding drift_of lines_of
drift_bytes positions targets prices equity room =
    output_of (drift_of positions targets prices equity room) (lines_of (held_in positions) (targets_in targets) (prices_in prices)) equity room

-- The refusals of `reconcile`, in their order.
-- Assumes nothing.
use Prim.Native.Nat.{ℕ}
use mathlib.Core.Path.{◌≡◌, refl}
use mathlib.Core.Bool.{true, false}
use mathlib.Core.List.{List}
use lib.IntN.{ℤ}
use lib.ListN.{replicate}
use Rattle.wire.specs.Layout.{both_of}
use Rattle.wire.proofs.Layouts.{both_sound}
use Rattle.drift.specs.Rows.{held_in, targets_in, prices_in, rows_layout}
use Rattle.drift.specs.Symbols.{all_where}
use Rattle.drift.specs.Entry.{weight_ok}
use Rattle.drift.specs.Report.{lines_of, report_of, output_of, values, lists_layout, drift_of, drift_bytes}
use Rattle.drift.specs.Code.{SoundLists}
use Rattle.drift.specs.declared.report.Drifted.{Drifted}
use Rattle.std.specs.Prelude.{Ok, Err, Result, OnOk, is_err}
use Rattle.wire.specs.Table.{encoded, padded}
use Rattle.drift.specs.Entry.{Line, line_bytes}
use Rattle.drift.specs.Report.{Reported}
use native.Mathlib.Omega.{arith}
use Rattle.wire.specs.declared.refusal.Refusal.{Refusal}

pub sound_lists : (p t q : List ℕ) → lists_layout p t q ≡ (Ok tt) → SoundLists p t q
sound_lists p t q e =
    let a = both_sound (rows_layout 32 p) (both_of (rows_layout 24 t) (rows_layout 24 q)) e in
    let b = both_sound (rows_layout 24 t) (rows_layout 24 q) a.1 in
    record { held = a.0; wanted = b.0; priced = b.1 }

module _ (p t q : List ℕ) (equity : ℤ) (room : ℕ) where
  pub refused_layout : (r : Refusal) → lists_layout p t q ≡ Err r → (Err r ≡ drift_of p t q equity room) × (replicate room 0 ≡ drift_bytes p t q equity room)
  unfolding drift_of drift_bytes
  refused_layout r e = rw e (refl, refl)

  pub refused_weight : lists_layout p t q ≡ (Ok tt) → all_where weight_ok (values (targets_in t)) ≡ false
      → ((Err Refusal.BadWeight) ≡ drift_of p t q equity room) × (replicate room 0 ≡ drift_bytes p t q equity room)
  unfolding drift_of drift_bytes
  refused_weight e w = rw (e, w) (refl, refl)

  pub reported : lists_layout p t q ≡ (Ok tt) → all_where weight_ok (values (targets_in t)) ≡ true
      → drift_of p t q equity room ≡ report_of (lines_of (held_in p) (targets_in t) (prices_in q)) equity room
  unfolding drift_of
  reported e w = rw (e, w)

  pub report_bytes : (r : (Result Drifted Refusal)) → r ≡ drift_of p t q equity room → output_of r (lines_of (held_in p) (targets_in t) (prices_in q)) equity room ≡ drift_bytes p t q equity room
  unfolding drift_bytes
  report_bytes r e = rw e

-- ---- sound lists have a sound layout
pub layout_sound : (p t q : List ℕ) → SoundLists p t q → lists_layout p t q ≡ Ok tt
layout_sound p t q s = rw (s.held, s.wanted, s.priced)

-- ---- what is written, from what is reported
pub reported_ok : (r : Result Drifted Refusal) (lines : List Line) (equity : ℤ) (room : ℕ) (after : List ℕ)
    → r ≡ report_of lines equity room → OnOk r (after ≡ padded room (encoded (line_bytes equity) lines)) → is_err r ≡ false → Reported r after lines equity room
reported_ok (Ok d) lines equity room after a w h = (a, w)
reported_ok (Err q) lines equity room after a w h = absurd (grind arith)

pub reported_err : (r : Result Drifted Refusal) (lines : List Line) (equity : ℤ) (room : ℕ) (after : List ℕ)
    → r ≡ report_of lines equity room → after ≡ replicate room 0 → is_err r ≡ true → Reported r after lines equity room
reported_err (Ok d) lines equity room after a w h = absurd (grind arith)
reported_err (Err q) lines equity room after a w h = (a, w)

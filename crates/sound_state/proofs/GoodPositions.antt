-- One event's effect on the positions keeps each of them good. About no function.
-- Assumes nothing.
use Prim.Native.Nat.{ℕ}
use mathlib.Core.Path.{◌≡◌, refl}
use mathlib.Core.List.{List, [], ◌∷◌}
use mathlib.Core.Bool.{Bool, true, false, cond, ◌&&◌, ◌||◌}
use lib.Ieee.{Float, binary64, mul, le, lt, of_int, to_signed}
use lib.Ieee.Casts.{to_signed_in}
use lib.IntN.{ℤ, pos}
use mir.Syntax.{w64}
use mir.Val.{SFits}
use Rattle.wire.proofs.Records.{Each}
use Rattle.wire.proofs.Records as Of
use Rattle.symbol.specs.Symbol.{symbol_of, parses, parsed, parsed_if}
use Rattle.symbol.specs.declared.Symbol.{Symbol}
use Rattle.float.specs.Bits.{is_finite}
use Rattle.types.specs.Fixed.{to_cents, to_fixed, in_range, lowest, past, round_away, value_if, if_finite}
use Rattle.checkpoint.specs.Checkpoint.{same_checkpoint}
use Rattle.checkpoint.specs.declared.Checkpoint.TheVariants.{PositionsFetched, PositionsResult}
use Rattle.records.specs.declared.position.Position.{Position}
use Rattle.effects.specs.Event.{Row, Event}
use Rattle.effects.specs.Step.{whole_or, kept_if, kept_by, kept_of, kept_before, positions_of_rows, positions_from, positions_at, positions_by, positions_step}
use Rattle.sound_state.proofs.Spelling.{Spelt}
use Rattle.sound_state.proofs.Good.{GoodPosition, TextBytes, GoodRow, GoodRows}
use Rattle.checkpoint.specs.declared.Checkpoint.{Checkpoint}
use Rattle.std.specs.Prelude.{Option, Some, None, Ok, Err, Result}
use Rattle.wire.specs.declared.refusal.Refusal.{Refusal}

-- ---- a row that is kept
abbrev FixedIn : Result ℤ Refusal → Type 0
FixedIn (Ok z) = SFits w64 z
FixedIn (Err e) = Unit

fixed_by : (a b : Bool) (r : Float) → FixedIn (if_finite a (value_if b (to_signed 63 r)))
fixed_by true true r = record { sfits = to_signed_in 63 r }
fixed_by true false r = tt
fixed_by false b r = tt

range_in : (a : Bool) (r : Float) → FixedIn (if_finite a (in_range r))
unfolding in_range
range_in a r = fixed_by a (le lowest r && lt r past) r

cents_in : (x : Float) → FixedIn (to_cents x)
unfolding to_cents to_fixed
cents_in x = range_in (is_finite x) (round_away binary64 (mul binary64 x (of_int binary64 (pos 100))))

abbrev KeptGood : Option Position → Type 0
KeptGood (Some p) = GoodPosition p
KeptGood None = Unit

kept_if_good : (y : Symbol) (q : ℤ) (f : (Result ℤ Refusal)) → Spelt y → SFits w64 q → FixedIn f → KeptGood (kept_if (Some y) q f)
kept_if_good y q (Ok c) s a b = record { symbol = s; quantity = a; cost = b }
kept_if_good y q (Err e) s a b = tt

kept_by_good : (t : Option (List ℕ)) (q : (Option ℤ)) (x : (Option Float)) → TextBytes t → SFits w64 (whole_or q) → KeptGood (kept_by t q x)
unfolding parsed
kept_by_good None q x b f = tt
kept_by_good (Some t) None x b f = tt
kept_by_good (Some t) (Some q) None b f = tt
kept_by_good (Some t) (Some q) (Some x) b f = by (parses t) refl
  where
    by : (v : Bool) → parses t ≡ v → KeptGood (kept_if (parsed_if v t) q (to_cents x))
    by true e = kept_if_good (symbol_of t) q (to_cents x) (record { text = t; parse = e; bytes = b; same = refl }) f (cents_in x)
    by false e = tt

kept_before_lem : (k : (Option Position)) (ps : List Position) → KeptGood k → Each GoodPosition ps → Each GoodPosition (kept_before k ps)
kept_before_lem (Some p) ps g h = Of.more g h
kept_before_lem None ps g h = h

rows_positions : (n : ℕ) (rs : List Row) → Each (GoodRow n) rs → Each GoodPosition (positions_of_rows rs)
unfolding positions_of_rows
rows_positions n [] Of.none = Of.none
rows_positions n (r ∷ rs) (Of.more g gs) =
    kept_before_lem (kept_of r) (positions_of_rows rs) (kept_by_good r.symbol r.amount r.price g.symbol g.amount) (rows_positions n rs gs)

-- ---- events
from_good : (n : ℕ) (rs : Option (List Row)) (ps : List Position) → GoodRows n rs → Each GoodPosition ps → Each GoodPosition (positions_from rs ps)
from_good n None ps g h = h
from_good n (Some rs) ps g h = rows_positions n rs g

pub positions_step_lem : (n : ℕ) (e : Event) (ps : List Position) → GoodRows n e.positions → Each GoodPosition ps → Each GoodPosition (positions_step e ps)
unfolding positions_by positions_at
positions_step_lem n e ps g h = named e.checkpoint
  where
    by : (b : Bool) → Each GoodPosition (cond b (positions_from e.positions ps) ps)
    by true = from_good n e.positions ps g h
    by false = h

    named : (k : (Option Checkpoint)) → Each GoodPosition (positions_by k e ps)
    named None = h
    named (Some k) = by (same_checkpoint k PositionsFetched || same_checkpoint k PositionsResult)

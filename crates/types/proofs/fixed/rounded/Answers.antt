-- `types::fixed::rounded` meets its contract: by the parts of n, each way of the sign and the range is a law of `Steps`. Assumes nothing.
use mathlib.Core.Path.{◌≡◌, ap, ◌∙◌, sym}
use mathlib.Core.Bool.{Bool, true, false}
use Prim.Native.Nat.{◌*◌, ◌^◌}
use lib.Dec.{leb}
use lib.Pow.{pow_pos}
use lib.Ieee.{binary64, of_bits}
use lib.Ieee.Bits.{of_bits-fits}
use borrow.Author.Tests.{le-leb, lt-leb}
use Rattle.std.proofs.Common.{rules}
use Rattle.float.proofs.Patterns.{not_finite_above}
use Rattle.types.specs.Fixed.{away, round_away, in_range}
use Rattle.types.proofs.Steps.{ranged, of_value, not_finite, checked_neg, checked_pos}
use Rattle.types.proofs.fixed.rounded.Goals.{After-half_up-m}
use Rattle.types.proofs.fixed.rounded.Goals as goal

-- by the sign s of n, what was rounded is what `half_up` is given
spec_at : (c : After-half_up-m) (s : Bool) → leb 0x8000_0000_0000_0000 c.args.n ≡ s
    → in_range (round_away binary64 (of_bits binary64 c.args.n)) ≡ ranged s (away (c.parts_of-parts.result.digits * 2 ^ c.parts_of-parts.result.power) (2 ^ 1074))
spec_at c s e =
    of_value (of_bits binary64 c.args.n) _ _ (2 ^ 1074) (of_bits-fits binary64 c.args.n) (pow_pos 1074) c.parts_of-parts.ensures.value
    ∙ ap (λ (s : Bool). ranged s (away (c.parts_of-parts.result.digits * 2 ^ c.parts_of-parts.result.power) (2 ^ 1074))) e

pub returns-then-n-ge9218868437227405312 : goal.returns-then-n-ge9218868437227405312
returns-then-n-ge9218868437227405312 c = not_finite _ (not_finite_above c.args.n c.if-n-ge9218868437227405312.true)

pub returns-then-n-ge9223372036854775808 : goal.returns-then-n-ge9223372036854775808
returns-then-n-ge9223372036854775808 c =
    c.ok_or.ensures.value
    ∙ checked_neg c.checked_sub_unsigned.result _ c.half_up-m.result c.half_up-m.ensures c.checked_sub_unsigned.ensures
    ∙ sym (spec_at (goal.at.returns-then-n-ge9223372036854775808 c).After-half_up-m true (le-leb _ _ c.if-n-ge9223372036854775808.true))

pub returns-else-n-ge9223372036854775808 : goal.returns-else-n-ge9223372036854775808
returns-else-n-ge9223372036854775808 c =
    checked_pos (λ e d k. search rules) c.try_from.result c.map_err.result _ c.half_up-m.result c.half_up-m.ensures c.try_from.ensures c.map_err.ensures.cases
    ∙ sym (spec_at (goal.at.returns-else-n-ge9223372036854775808 c).After-half_up-m false (lt-leb _ _ c.if-n-ge9223372036854775808.false))

-- `float::root::sqrt` meets its contract: above zero by `root_bits`, and the rest by the laws of `RootCases`. Assumes nothing.
use Rattle.std.proofs.Common.{◌≡◌, true, T, sym, refl, ap, ◌∙◌, subst}
use lib.Ieee.{nan, binary64, fits, lt, div, of_bits}
use lib.Ieee.Bits.{of_bits-to_bits}
use Rattle.float.specs.Root.{sqrt}
use Rattle.float.proofs.RootCases.{nought, above_none, top_root, zero_root, no_root}
use Rattle.float.proofs.root.sqrt.Goals as goal

zero_by_zero : div binary64 nought nought ≡ nan
unfolding div
zero_by_zero = refl

pub root_bits-requires : goal.root_bits-requires
unfolding of_bits
root_bits-requires c =
    let held : T (fits binary64 c.args.x) = subst T (sym c.well_formed.0.1) tt in
    let back : of_bits binary64 c.to_bits-n.result ≡ c.args.x = ap (of_bits binary64) c.to_bits-n.ensures ∙ of_bits-to_bits binary64 c.args.x held in
    let up : lt nought (of_bits binary64 c.to_bits-n.result) ≡ true = ap (lt nought) back ∙ c.if-x.true in
    record { some = above_none c.to_bits-n.result up; finite = c.if-n-lt9218868437227405312.true }

pub returns-then-n-lt9218868437227405312 : goal.returns-then-n-lt9218868437227405312
returns-then-n-lt9218868437227405312 c =
    let held : T (fits binary64 c.args.x) = subst T (sym c.well_formed.0.1) tt in
    let back : of_bits binary64 c.to_bits-n.result ≡ c.args.x = ap (of_bits binary64) c.to_bits-n.ensures ∙ of_bits-to_bits binary64 c.args.x held in
    c.from_bits.ensures ∙ c.root_bits.ensures ∙ ap (sqrt binary64) back

pub returns-else-n-lt9218868437227405312 : goal.returns-else-n-lt9218868437227405312
unfolding of_bits
returns-else-n-lt9218868437227405312 c =
    let held : T (fits binary64 c.args.x) = subst T (sym c.well_formed.0.1) tt in
    let back : of_bits binary64 c.to_bits-n.result ≡ c.args.x = ap (of_bits binary64) c.to_bits-n.ensures ∙ of_bits-to_bits binary64 c.args.x held in
    let up : lt nought (of_bits binary64 c.to_bits-n.result) ≡ true = ap (lt nought) back ∙ c.if-x.true in
    sym back ∙ top_root c.to_bits-n.result up c.if-n-lt9218868437227405312.false ∙ ap (sqrt binary64) back

pub returns-then-x-2 : goal.returns-then-x-2
unfolding of_bits
returns-then-x-2 c = zero_root c.args.x c.if-x-2.true

pub returns-else-x-2 : goal.returns-else-x-2
unfolding of_bits
returns-else-x-2 c = zero_by_zero ∙ no_root c.args.x c.if-x.false c.if-x-2.false

-- `float::root::root_bits` meets its contract: `root_at` for a root that is moved up and for one that is not. Assumes nothing.
use Rattle.std.proofs.Common.{ℕ, ◌+◌, ◌-◌, ◌*◌, ◌/◌, true, false, ap, ◌∙◌, add-one, le-ltb, lt-ltb}
use lib.Ieee.{binary64, of_bits}
use Rattle.float.proofs.RootPack.{root_at}
use Rattle.float.proofs.root.root_bits.Goals as goal

pub returns-then-g : goal.returns-then-g
returns-then-g c =
    let k = (c.parts_of-parts.result.power + 1074 - c.shift_of-z.result) / 2 - 26 in
    ap (λ (q : ℕ). of_bits binary64 (k * 0x10_0000_0000_0000 + q)) (add-one c.digits_of-g.result.root)
    ∙ root_at true c.args.n c.parts_of-parts.result.digits c.parts_of-parts.result.power c.shift_of-z.result c.digits_of-g.result.root c.digits_of-g.result.left
    c.requires.some c.requires.finite c.parts_of-parts.ensures c.shift_of-z.ensures (c.digits_of-g.ensures.number, c.digits_of-g.result.whole, c.digits_of-g.ensures.most) (lt-ltb _ _ c.if-g.true)

pub returns-else-g : goal.returns-else-g
returns-else-g c =
    root_at false c.args.n c.parts_of-parts.result.digits c.parts_of-parts.result.power c.shift_of-z.result c.digits_of-g.result.root c.digits_of-g.result.left
    c.requires.some c.requires.finite c.parts_of-parts.ensures c.shift_of-z.ensures (c.digits_of-g.ensures.number, c.digits_of-g.result.whole, c.digits_of-g.ensures.most) (le-ltb _ _ c.if-g.false)

-- `types::fixed::half_up` meets its contract: each of its ways is a law of `Away`. Assumes nothing.
use native.Mathlib.Omega.{arith}
use Prim.Native.Nat.{◌-◌}
use Rattle.types.proofs.Away.{huge, whole_shift, none, some}
use Rattle.types.proofs.fixed.half_up.Goals as goal

pub returns-then-power-ge1086 : goal.returns-then-power-ge1086
returns-then-power-ge1086 c =
    huge c.args.digits c.args.power c.if-power-ge1086.true (c.requires.normal (omega arith))

pub returns-then-power-ge1074 : goal.returns-then-power-ge1074
returns-then-power-ge1074 c =
    whole_shift c.args.digits c.args.power c.if-power-ge1074.true c.if-power-ge1086.false c.requires.short

pub returns-then-s-ge63 : goal.returns-then-s-ge63
returns-then-s-ge63 c =
    none c.args.digits c.args.power (1074 - c.args.power) c.if-s-ge63.true (omega arith) c.requires.short

pub returns-else-s-ge63 : goal.returns-else-s-ge63
returns-else-s-ge63 c =
    some c.args.digits c.args.power (1074 - c.args.power) (omega arith) c.if-s-ge63.false (omega arith) c.requires.short

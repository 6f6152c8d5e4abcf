-- `wire::copy`: the bytes that have room, or none past the end.
use Rattle.std.proofs.Common.{sym, ◌∙◌, take, length-take, ◌-◌, ◌+◌}
use native.Mathlib.Omega.{arith}
use Rattle.wire.proofs.Written.{sets_past, sets_room, put_mid_is}
use Rattle.wire.proofs.copy.Goals as goal

pub returns-then-at-d : goal.returns-then-at-d
returns-then-at-d c =
    let a = c.args in
    let n = c.min-n.result in
    put_mid_is a.d.now c.copy_from_slice.new.self (take n a.s.now) a.at (a.at + n - a.at) c.copy_from_slice.ensures.after
    (omega (arith, c.min-n.ensures)) (rw length-take (omega (arith, c.min-n.ensures)))
    ∙ sets_room a.d.now a.s.now a.at n c.min-n.ensures

pub returns-else-at-d : goal.returns-else-at-d
returns-else-at-d c = sym (sets_past c.args.d.now c.args.at c.args.s.now (omega arith))

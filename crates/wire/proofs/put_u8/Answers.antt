-- `wire::put_u8`: one store, or nothing past the end.
use Rattle.std.proofs.Common.{rules, sym}
use Rattle.wire.specs.Le.{bytes_of}
use Rattle.wire.proofs.Words.{one_store}
use Rattle.wire.proofs.Written.{sets_past}
use Rattle.wire.proofs.put_u8.Goals as goal

pub returns-then-at-d : goal.returns-then-at-d
returns-then-at-d c =
    let a = c.args in
    one_store a.d.now a.at a.x (search rules)

pub returns-else-at-d : goal.returns-else-at-d
returns-else-at-d c =
    let a = c.args in
    sym (sets_past a.d.now a.at (bytes_of 1 a.x) c.if-at-d.false)

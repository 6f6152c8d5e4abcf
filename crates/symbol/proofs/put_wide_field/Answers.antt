-- `symbol::put_wide_field`: the number's bytes, and the length's after them; nothing past the end.
use Rattle.std.proofs.Common.{sym, ◌∙◌}
use Rattle.symbol.specs.Symbol.{wide_field_bytes}
use Rattle.wire.proofs.Written.{sets_past}
use Rattle.symbol.proofs.Field.{sets_two}
use Rattle.symbol.proofs.put_wide_field.Goals as goal

pub returns-then-at-d : goal.returns-then-at-d
returns-then-at-d c =
    let a = c.args in
    c.put_u64-then-at-d.ensures ∙ rw (c.put_u64.ensures, c.from.ensures) (sets_two a.d.now a.at 8 8 a.y.word a.y.len)

pub returns-else-at-d : goal.returns-else-at-d
returns-else-at-d c =
    let a = c.args in
    sym (sets_past a.d.now a.at (wide_field_bytes a.y) c.if-at-d.false)

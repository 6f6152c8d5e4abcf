-- `wire::bytes_at`: the bytes by their places.
use Rattle.std.proofs.Common.{rules, ap, ◌∙◌}
use Rattle.wire.specs.Le.{le}
use Rattle.wire.proofs.Numbers.{le_byte, le_made}
use Rattle.wire.proofs.bytes_at.Goals as goal

pub returns : goal.returns
returns g c =
    le_made _ _ c.from-rest.result.now (λ i b q k. rw (← le_byte i c.from-rest.result.now) (search rules)) _ _ c.from_fn.ensures.items ∙ ap (le g.row.N) c.from-rest.ensures

-- `wire::u16_at`: the number of the bytes.
use Rattle.std.proofs.Common.{◌∙◌}
use Rattle.wire.proofs.Numbers.{le_2}
use Rattle.wire.proofs.u16_at.Goals as goal

pub returns : goal.returns
returns c = c.from_le_bytes.ensures ∙ le_2 c.bytes_at.result ∙ c.bytes_at.ensures

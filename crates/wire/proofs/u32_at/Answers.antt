-- `wire::u32_at`: the number of the bytes.
use Rattle.std.proofs.Common.{◌∙◌}
use Rattle.wire.proofs.Numbers.{le_4}
use Rattle.wire.proofs.u32_at.Goals as goal

pub returns : goal.returns
returns c = c.from_le_bytes.ensures ∙ le_4 c.bytes_at.result ∙ c.bytes_at.ensures

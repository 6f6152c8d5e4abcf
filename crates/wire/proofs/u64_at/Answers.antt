-- `wire::u64_at`: the number of the bytes.
use Rattle.std.proofs.Common.{◌∙◌}
use Rattle.wire.proofs.Numbers.{le_8}
use Rattle.wire.proofs.u64_at.Goals as goal

pub returns : goal.returns
returns c = c.from_le_bytes.ensures ∙ le_8 c.bytes_at.result ∙ c.bytes_at.ensures

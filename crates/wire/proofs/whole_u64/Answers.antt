-- `wire::whole_u64`: the number of the bytes.
use Rattle.std.proofs.Common.{◌∙◌}
use Rattle.wire.proofs.Numbers.{le_8}
use Rattle.wire.proofs.whole_u64.Goals as goal

pub returns : goal.returns
returns c = c.from_le_bytes.ensures ∙ le_8 c.whole.result ∙ c.whole.ensures

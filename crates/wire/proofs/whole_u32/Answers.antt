-- `wire::whole_u32`: the number of the bytes.
use Rattle.std.proofs.Common.{◌∙◌}
use Rattle.wire.proofs.Numbers.{le_4}
use Rattle.wire.proofs.whole_u32.Goals as goal

pub returns : goal.returns
returns c = c.from_le_bytes.ensures ∙ le_4 c.whole.result ∙ c.whole.ensures

-- `wire::u8_at`: the byte at the place.
use Rattle.std.proofs.Common.{rules}
use Rattle.wire.proofs.Numbers.{le_byte}
use Rattle.wire.proofs.u8_at.Goals as goal

pub returns : goal.returns
returns c = rw le_byte (search rules)

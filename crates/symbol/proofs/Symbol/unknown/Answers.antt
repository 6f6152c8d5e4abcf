-- `Symbol::unknown`: the number of the text UNKNOWN, computed.
use Rattle.wire.specs.Le.{le}
use Rattle.symbol.proofs.Symbol.unknown.Goals as goal

pub returns : goal.returns
unfolding le
returns c = rw c.from_le_bytes.ensures

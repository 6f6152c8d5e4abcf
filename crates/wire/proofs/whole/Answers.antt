-- `wire::whole`: the bytes by their places.
use Rattle.std.proofs.Common.{rules}
use Rattle.wire.proofs.Numbers.{le_made}
use Rattle.wire.proofs.whole.Goals as goal

pub returns : goal.returns
returns g c = le_made _ _ c.args.s.now (λ i b q k. search rules) _ _ c.from_fn.ensures.items

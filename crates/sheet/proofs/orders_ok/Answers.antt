-- `orders_ok`: what the chain answers.
use Rattle.std.proofs.Common.{rules}
use Rattle.wire.proofs.Chains.{every_from_all}
use Rattle.sheet.specs.Sheet.{broker_order_ok}
use Rattle.sheet.proofs.orders_ok.Goals as goal

pub returns : goal.returns
returns c = every_from_all broker_order_ok 24 c.args.s.now c.all.ensures.ran (λ i b q k. search rules)

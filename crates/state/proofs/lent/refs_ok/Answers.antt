-- `lent::refs_ok`: every reference, as the calls say.
use Rattle.state.specs.State.{refs_ok}
use Rattle.state.proofs.lent.refs_ok.Goals as goal

pub returns : goal.returns
unfolding refs_ok
returns c = cc

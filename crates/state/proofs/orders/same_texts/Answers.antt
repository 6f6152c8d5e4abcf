-- `orders::same_texts`: every text, as the calls say.
use Rattle.state.specs.State.{same_texts}
use Rattle.state.proofs.orders.same_texts.Goals as goal

pub returns : goal.returns
unfolding same_texts
returns c = cc

-- `sheet::order_ok`: the state and the zeros after it, read as one number.
use lib.ListN.{drop}
use Rattle.sheet.proofs.Lists.{state_number_lem}
use Rattle.sheet.proofs.order_ok.Goals as goal

pub returns : goal.returns
returns c = let a = c.args in rw (c.u64_at.ensures, c.from.ensures) (state_number_lem (drop a.at a.s.now))

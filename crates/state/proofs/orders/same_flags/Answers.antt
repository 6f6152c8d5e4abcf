-- `orders::same_flags`: the flags below 8 are those that equality reads.
use Rattle.state.proofs.Tables.{read_flags_lem}
use Rattle.state.proofs.orders.same_flags.Goals as goal

pub returns : goal.returns
returns c =
    let a = c.args in
    rw (c.flags_of.ensures, c.flags_of-2.ensures, read_flags_lem a.o, read_flags_lem a.p)

-- `float::root::shift_of` meets its contract, by `shift_is`. Assumes nothing.
use Rattle.float.proofs.RootPack.{shift_is}
use Rattle.float.proofs.root.shift_of.Goals as goal

pub overflow_sub-result : goal.overflow_sub-result
overflow_sub-result c = rw c.from.ensures (shift_is c.args.d c.requires.some c.requires.short).0

pub returns : goal.returns
returns c = let s = (shift_is c.args.d c.requires.some c.requires.short).2 in rw c.from.ensures (s.most, s.full, s.small)

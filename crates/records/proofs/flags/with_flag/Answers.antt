-- `flags::with_flag`: a flag that is on has its value within the byte.
use borrow.Author.Rules.{rules}
use Rattle.records.proofs.FlagByte.{flag_within}
use Rattle.records.proofs.flags.with_flag.Goals as goal

pub overflow_sub-others : goal.overflow_sub-others
overflow_sub-others c =
    let a = c.args in
    rw (c.flag_if.ensures.0, c.has_flag.ensures) (flag_within a.value a.flags (search rules))

-- `marks_record::put_head`: four numbers, one after the other.
use borrow.Author.Rules.{rules}
use mathlib.Core.Path.{◌∙◌}
use mir.Syntax.{w64}
use mir.ValLaws.{to_z-of_z}
use Rattle.marks_record.proofs.Puts.{head_written}
use Rattle.marks_record.proofs.put_head.Goals as goal

pub returns : goal.returns
returns c =
    let a = c.args in
    c.put_u64-4.ensures
    ∙ rw (c.put_u64-3.ensures, c.put_u64-2.ensures, c.put_u64.ensures, c.cast_unsigned-2.ensures, c.cast_unsigned.ensures, c.from-2.ensures, c.from.ensures, to_z-of_z w64 a.m.time (search rules), to_z-of_z w64 a.m.equity (search rules))
    (head_written a.d.now _ _ _ _)

-- `marks_record::put_marks`: the head, the flags and the last numbers.
use mathlib.Core.Path.{◌∙◌}
use Rattle.marks_record.proofs.Puts.{marks_written}
use Rattle.marks_record.proofs.put_marks.Goals as goal

pub returns : goal.returns
returns c =
    let a = c.args in
    c.put_pairs.ensures ∙ rw (c.put_flags.ensures, c.put_head.ensures) (marks_written a.d.now a.m)

-- `marks_record::put_flags`: truths one after the other, and zeros.
use mathlib.Core.Path.{◌∙◌}
use Rattle.marks_record.proofs.Puts.{flags_written}
use Rattle.marks_record.proofs.put_flags.Goals as goal

pub returns : goal.returns
returns c =
    let a = c.args in
    c.put.ensures
    ∙ rw (c.put_flag-4.ensures, c.put_flag-3.ensures, c.put_flag-2.ensures, c.put_flag.ensures, c.put_u8-2.ensures, c.put_u8.ensures, c.from-2.ensures, c.from.ensures)
    (flags_written a.d.now a.m)

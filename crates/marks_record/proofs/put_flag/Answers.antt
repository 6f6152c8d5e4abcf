-- `marks_record::put_flag`: two truths, one after the other.
use mathlib.Core.Path.{◌∙◌}
use Rattle.marks_record.proofs.Puts.{flag_written}
use Rattle.marks_record.proofs.put_flag.Goals as goal

pub returns : goal.returns
returns c =
    let a = c.args in
    c.put_u8-2.ensures ∙ rw (c.put_u8.ensures, c.from-2.ensures, c.from.ensures) (flag_written a.d.now a.at a.p)

-- `marks_record::put_pair`: two last numbers, one after the other.
use mathlib.Core.Path.{◌∙◌}
use Rattle.marks_record.proofs.Puts.{pair_written}
use Rattle.marks_record.proofs.put_pair.Goals as goal

pub returns : goal.returns
returns c =
    let a = c.args in
    c.put_number-2.ensures ∙ rw c.put_number.ensures (pair_written a.d.now a.at a.p)

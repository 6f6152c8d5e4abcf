-- `marks_record::put_pairs`: four pairs, one after the other.
use mathlib.Core.Path.{◌∙◌}
use Rattle.marks_record.proofs.Puts.{pairs_written}
use Rattle.marks_record.proofs.put_pairs.Goals as goal

pub returns : goal.returns
returns c =
    let a = c.args in
    c.put_pair-4.ensures ∙ rw (c.put_pair-3.ensures, c.put_pair-2.ensures, c.put_pair.ensures) (pairs_written a.d.now a.m)

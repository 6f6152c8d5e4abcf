-- `discrepancy::put_discrepancy`: six numbers, one after the other.
use borrow.Author.Rules.{rules}
use mathlib.Core.Path.{◌∙◌}
use Rattle.compare.specs.Report.{discrepancy_bytes}
use Rattle.compare.proofs.Adding.{six_words}
use Rattle.compare.proofs.discrepancy.put_discrepancy.Goals as goal

pub returns : goal.returns
unfolding discrepancy_bytes
returns c =
    let a = c.args in
    let f = c.fields_of-f in
    c.put_whole_u64-6.ensures
    ∙ rw (
      c.put_whole_u64-5.ensures,
      c.put_whole_u64-4.ensures,
      c.put_whole_u64-3.ensures,
      c.put_whole_u64-2.ensures,
      c.put_whole_u64.ensures,
      ← f.ensures,
    )
    (six_words a.d.now a.at f.result (search rules))

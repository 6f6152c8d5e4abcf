-- `marks_record::put_number`: two numbers, one after the other.
use mathlib.Core.Path.{ap, ◌∙◌}
use Rattle.marks_record.specs.MarksRecord.{truth_number}
use Rattle.marks_record.proofs.Puts.{number_written}
use Rattle.marks_record.proofs.put_number.Goals as goal

pub returns : goal.returns
returns c = c.put_u64-2.ensures ∙ rw (c.put_u64.ensures, c.unwrap_or.ensures) (number_written c.args.d.now c.args.at c.args.n _ (c.from.ensures ∙ ap truth_number c.is_some.ensures))

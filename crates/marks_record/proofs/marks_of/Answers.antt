-- `marks_record::marks_of`: its parts, read at their places.
use borrow.Author.Rules.{rules}
use mir.Syntax.{w64}
use mir.ValLaws.{to_z-of_z}
use Rattle.marks_record.specs.MarksRecord.{marks_of}
use Rattle.marks_record.proofs.marks_of.Goals as goal

pub returns : goal.returns
unfolding marks_of
returns c =
    rw (to_z-of_z w64 c.i64_at.result (search rules), to_z-of_z w64 c.i64_at-2.result (search rules), c.truth_at-2.ensures, c.truth_at.ensures, c.i64_at-2.ensures, c.i64_at.ensures, c.u64_at.ensures, c.pair_at-4.ensures, c.pair_at-3.ensures, c.pair_at-2.ensures, c.pair_at.ensures, c.checkpoint_of.ensures, c.u64_of.ensures)

-- `marks_answers::state_answer::open_queries` meets its contract: the flags of each pair. Assumes nothing.
use Rattle.marks_record.specs.MarksRecord.{marks_of}
use Rattle.marks_answers.proofs.state_answer.open_queries.Goals as goal

pub returns : goal.returns
unfolding marks_of
returns c =
    rw (
      c.unanswered_at.ensures,
      c.unanswered_at-2.ensures,
      c.unanswered_at-3.ensures,
      c.unanswered_at-4.ensures,
    )

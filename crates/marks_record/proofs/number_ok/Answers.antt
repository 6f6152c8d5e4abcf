-- `marks_record::number_ok`: what the calls ensure, put together.
use Rattle.marks_record.specs.MarksRecord.{number_ok}
use Rattle.marks_record.proofs.number_ok.Goals as goal

pub returns : goal.returns
unfolding number_ok
returns c = cc

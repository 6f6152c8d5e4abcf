-- `marks_record::checkpoint_of`: the table is the list of the checkpoints.
use Rattle.checkpoint.specs.Checkpoint.{checkpoints}
use Rattle.std.proofs.Common.{rules}
use Rattle.std.proofs.lemmas.Option.{unwrap_or-slice_get}
use Rattle.marks_record.proofs.checkpoint_of.Goals as goal

pub returns : goal.returns
unfolding checkpoints
returns c = search (rules, unwrap_or-slice_get)

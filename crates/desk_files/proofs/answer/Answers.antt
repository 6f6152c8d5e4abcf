-- `desk_files::answer`: the reply always fits, so the answer is its length and the buffer holds it whole.
use Rattle.std.proofs.Common.{◌∙◌, ap, rules}
use Rattle.std.specs.Result.{result_unwrap_or}
use Rattle.desk_files.proofs.Whole.{whole}
use Rattle.desk_files.proofs.answer.Goals as goal

pub returns : goal.returns
returns c =
    let w = rw (c.part.ensures, c.part-2.ensures) at (whole _ _ _ _ _ (search rules) c.reply.ensures) in
    (c.unwrap_or.ensures ∙ ap (λ x. result_unwrap_or x 0) w.0, w.1)

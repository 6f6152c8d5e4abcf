-- `answers::fixed_answer::give_fixed` meets its contract: a refusal by a law of `Answers`, a value as `give_value` ensures. Assumes nothing.
use lib.ListN.{length}
use Rattle.answers.proofs.Answers.{carry, refused_answer}
use Rattle.answers.proofs.fixed_answer.give_fixed.Goals as goal

pub returns-in-Err : goal.returns-in-Err
returns-in-Err c =
    rw c.into.ensures (carry (length c.args.answer.now) c.in-Err.is c.clear.ensures (refused_answer c.in-Err.refusal (length c.args.answer.now)))

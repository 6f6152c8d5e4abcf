-- `reply::book_result`: by the recovery's answer.
use lib.ListN.{length}
use Rattle.std.proofs.lemmas.Result.{err_from_is_err_and}
use Rattle.reply.proofs.Parts.{by_answer}
use Rattle.reply.proofs.book_result.Goals as goal

pub returns-in_err-r : goal.returns-in_err-r
returns-in_err-r c =
    let a = c.args in
    let p = err_from_is_err_and c.from_residual.result c.from_residual.ensures.1 in
    rw (p.1, p.2, by_answer a.book.bytes.now a.sheet.bytes.now (length a.report.now) a.orders.now a.positions.now a.book.sound c.requires.no_orders c.requires.no_positions _ _ _ c.recover.ensures, c.in_err-r.was)

pub returns : goal.returns
returns c =
    let a = c.args in
    rw (by_answer a.book.bytes.now a.sheet.bytes.now (length a.report.now) a.orders.now a.positions.now a.book.sound c.requires.no_orders c.requires.no_positions _ _ _ c.recover.ensures, c.in_ok-r.was, ← c.part-orders.ensures, ← c.part-positions.ensures, ← c.validate_sound-verdict.ensures) c.compared_result.ensures

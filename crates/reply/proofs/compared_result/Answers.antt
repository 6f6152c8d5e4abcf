-- `reply::compared_result`: by the comparison's answer; the kinds that are read are those of the report.
use mathlib.Core.Path.{sym, ◌∙◌}
use Rattle.std.proofs.lemmas.Result.{err_from_is_err_and}
use Rattle.reply.specs.Result.{compared_result}
use Rattle.reply.proofs.Compared.{told_back}
use Rattle.reply.proofs.compared_result.Goals as goal

pub returns-in_err-c : goal.returns-in_err-c
unfolding compared_result
returns-in_err-c c =
    let p = err_from_is_err_and c.from_residual.result c.from_residual.ensures.1 in
    rw (p.1, p.2, sym c.compare_sound_sheet.ensures.0 ∙ c.in_err-c.was)

pub returns : goal.returns
returns c =
    let s = c.compare_sound_sheet.ensures in
    told_back _ _ _ _ _ _ _ _ (sym s.0 ∙ c.in_ok-c.was) s.1

-- `rows::Lists::checked`: sound lists, or the refusal of the three tests.
use Rattle.std.proofs.Common.{◌≡◌, sym, ◌∙◌}
use Rattle.std.proofs.lemmas.Result.{err_from_is_err_and}
use Rattle.drift.specs.Report.{lists_layout}
use Rattle.drift.proofs.Refusals.{sound_lists}
use Rattle.drift.proofs.rows.Lists.checked.Goals.{After-both-2}
use Rattle.drift.proofs.rows.Lists.checked.Goals as goal

layout : (c : After-both-2) → c.both-2.result ≡ lists_layout c.args.positions.now c.args.targets.now c.args.prices.now
layout c = rw (c.both.ensures, c.check_rows-held.ensures, c.check_rows-wanted.ensures, c.check_rows-priced.ensures) at c.both-2.ensures

pub returns-in_err-both : goal.returns-in_err-both
returns-in_err-both c =
    let p = err_from_is_err_and c.from_residual.result c.from_residual.ensures.1 in
    rw (p.1, p.2) (record { lent = tt; refused = sym (layout (goal.at.returns-in_err-both c).After-both-2) ∙ c.in_err-both.was })

pub invariant_of-result : goal.invariant_of-result
invariant_of-result c =
    let a = c.args in
    record {
      sound = sound_lists a.positions.now a.targets.now a.prices.now (sym (layout (goal.at.invariant_of-result c).After-both-2) ∙ c.in_ok-both.was);
      bytes = record { held = λ k. (c.type_inv.positions k).fits; wanted = λ k. (c.type_inv.targets k).fits; priced = λ k. (c.type_inv.prices k).fits };
    }

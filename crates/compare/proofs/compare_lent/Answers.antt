-- `compare_lent`: by the layout.
use mathlib.Core.Path.{refl, sym, ◌∙◌}
use native.Mathlib.Nat.{le_of_eq}
use lib.ListN.{length}
use Rattle.wire.proofs.Layouts.{both_sound}
use Rattle.sheet.specs.Sheet.{sheet_layout}
use Rattle.sheet.proofs.Lists.{sound_sheet}
use Rattle.compare.specs.Compare.{lent_report, comparison, report_out}
use Rattle.compare.proofs.Adding.{answers_at}
use Rattle.compare.proofs.compare_lent.Goals as goal

pub invariant_of-report : goal.invariant_of-report
invariant_of-report c =
    let s = c.args.sheet.now in
    record { whole = le_of_eq (sym (sound_sheet s (both_sound (sheet_layout s) _ (sym c.requires ∙ c.in-Ok.is)).0).size) }

pub returns-in-Ok : goal.returns-in-Ok
unfolding comparison report_out
returns-in-Ok c m q =
    let a = c.args in
    let r = c.report-s in
    let s = c.answered in
    rw (sym c.requires ∙ c.in-Ok.is)
    (answers_at (length a.out.now) (lent_report m a.orders.now a.positions.now a.sheet.now) r.result r.new.out s.new.out s.result
    r.auto.out
    s.ensures
    (r.ensures m q))

pub returns-in-Err : goal.returns-in-Err
unfolding comparison report_out
returns-in-Err c m q = rw (sym c.requires ∙ c.in-Err.is) (refl, c.clear.ensures)

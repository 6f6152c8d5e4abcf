-- `report::Table::report`: a refusal leaves zeros.
use Prim.Native.Nat.{ℕ}
use mathlib.Core.Path.{sym, ap, ◌∙◌}
use lib.ListN.{replicate}
use mir.Syntax.{w64}
use mir.ValLaws.{to_z-of_z}
use Rattle.drift.proofs.Refusals.{reported_ok, reported_err}
use Rattle.drift.proofs.table.Table.report.Goals as goal

pub returns-then-is_err : goal.returns-then-is_err
returns-then-is_err g c =
    let d = c.put_entries-drift in
    rw (to_z-of_z w64 c.args.equity c.ranges.equity, c.fill-n.ensures.lines) at
    (reported_err d.result _ _ _ c.clear.new.d d.ensures.answer (c.clear.ensures ∙ ap (λ (m : ℕ). replicate {A = ℕ} m 0) d.auto.entries) (sym c.is_err.ensures.value ∙ c.if-is_err.true))

pub returns-else-is_err : goal.returns-else-is_err
returns-else-is_err g c =
    let d = c.put_entries-drift in
    rw (to_z-of_z w64 c.args.equity c.ranges.equity, c.fill-n.ensures.lines) at (reported_ok d.result _ _ _ d.new.entries d.ensures.answer d.ensures.written (sym c.is_err.ensures.value ∙ c.if-is_err.false))

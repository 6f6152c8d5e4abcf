-- `report::reconcile`: the refusals in their order, then the report.
use mathlib.Core.Path.{◌≡◌, sym, ◌∙◌}
use lib.ListN.{length}
use mir.Syntax.{w64}
use mir.ValLaws.{to_z-of_z}
use Rattle.std.specs.Prelude.{Ok}
use Rattle.std.proofs.lemmas.Result.{err_from_is_err_and}
use Rattle.symbol.proofs.Text.{bytes_of_lem}
use Rattle.wire.specs.Layout.{Layout}
use Rattle.drift.specs.Report.{lists_layout}
use Rattle.drift.proofs.Looked.{sound_rows}
use Rattle.drift.proofs.Refusals.{sound_lists, layout_sound, refused_layout, refused_weight, reported, report_bytes}
use Rattle.drift.proofs.report.reconcile.Goals.{In_ok-lists}
use Rattle.drift.proofs.report.reconcile.Goals as goal

-- the lists that are sound are those lent
layout : (c : In_ok-lists) → ◌≡◌ {A = Layout} (lists_layout c.args.positions.now c.args.targets.now c.args.prices.now) (Ok tt)
layout c =
    let l = c.in_ok-lists.lists in
    let e = c.in_ok-lists.ensures.lent in
    rw (e.0, e.1, e.2) at (layout_sound l.positions.now l.targets.now l.prices.now l.sound)

pub weights_ok-requires : goal.weights_ok-requires
weights_ok-requires c =
    let a = c.args in
    let t = a.targets.now in
    (sound_rows 24 t (bytes_of_lem t c.type_inv.targets) (sound_lists a.positions.now t a.prices.now (layout (goal.at.weights_ok-requires c).In_ok-lists)).wanted).0

pub returns-in_err-lists : goal.returns-in_err-lists
returns-in_err-lists c =
    let a = c.args in
    let p = err_from_is_err_and c.from_residual.result c.from_residual.ensures.1 in
    let r = refused_layout a.positions.now a.targets.now a.prices.now a.equity (length a.entries.now) c.in_err-lists.field-0.0 c.in_err-lists.ensures.refused in
    rw (p.1, p.2) (r.0, c.clear.ensures ∙ r.1)

pub returns-then-not-weights_ok : goal.returns-then-not-weights_ok
returns-then-not-weights_ok c =
    let a = c.args in
    let l = layout (goal.at.returns-then-not-weights_ok c).In_ok-lists in
    let r = refused_weight a.positions.now a.targets.now a.prices.now a.equity (length a.entries.now) l (sym c.weights_ok.ensures ∙ c.if-not-weights_ok.true) in
    (r.0, c.clear.ensures ∙ r.1)

pub returns : goal.returns
returns c =
    let a = c.args in
    let p = a.positions.now in
    let t = a.targets.now in
    let q = a.prices.now in
    let room = length a.entries.now in
    let l = layout (goal.at.returns c).In_ok-lists in
    let w = sym c.weights_ok.ensures ∙ c.if-not-weights_ok.false in
    let lent = c.in_ok-lists.ensures.lent in
    let e = rw (c.clear.auto.d, to_z-of_z w64 a.equity c.ranges.equity, lent.0, lent.1, lent.2) at c.report.ensures in
    let d = e.0 ∙ sym (reported p t q a.equity room l w) in
    (d, e.1 ∙ report_bytes p t q a.equity room c.report.result d)

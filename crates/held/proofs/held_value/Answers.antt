-- `held::held_value`: the refusals of the lists, then the value.
use mathlib.Core.Path.{◌≡◌, ◌∙◌}
use mathlib.Core.List.{[]}
use Rattle.std.specs.Prelude.{Ok}
use Rattle.std.proofs.lemmas.Result.{err_from_is_err_and}
use Rattle.wire.specs.Layout.{Layout}
use Rattle.drift.specs.Report.{lists_layout}
use Rattle.drift.proofs.Refusals.{layout_sound}
use Rattle.held.proofs.Refusals.{held_refused, held_sound}
use Rattle.held.proofs.held_value.Goals as goal

pub value-requires : goal.value-requires
value-requires c = c.in_ok-checked.ensures.lent.1

pub returns-in_err-checked : goal.returns-in_err-checked
returns-in_err-checked c =
    let p = err_from_is_err_and c.from_residual.result c.from_residual.ensures.1 in
    rw (p.1, p.2) (held_refused c.args.positions.now c.args.prices.now c.in_err-checked.field-0.0 c.in_err-checked.ensures.refused)

pub returns : goal.returns
returns c =
    let a = c.args in
    let l = c.in_ok-checked.field-0 in
    let e = c.in_ok-checked.ensures.lent in
    let s : ◌≡◌ {A = Layout} (lists_layout a.positions.now [] a.prices.now) (Ok tt) = rw (e.0, e.1, e.2) at (layout_sound l.positions.now l.targets.now l.prices.now l.sound) in
    rw (e.0, e.1, e.2) at c.value.ensures ∙ held_sound a.positions.now a.prices.now s

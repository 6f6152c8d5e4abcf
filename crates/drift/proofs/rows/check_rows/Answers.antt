-- `rows::check_rows`: whole rows, and what the chain answers of them.
use Prim.Native.Nat.{◌/◌}
use Rattle.std.proofs.Common.{rules, ap, ◌∙◌}
use borrow.Author.Tests.{lt-ltb, le-ltb}
use lib.ListN.{length}
use Rattle.wire.specs.Layout.{sound_if}
use Rattle.symbol.specs.Symbol.{wide_field_ok}
use Rattle.records.proofs.Chains.{table_from_all, table_from_odd}
use Rattle.drift.specs.Rows.{rows_layout}
use Rattle.drift.proofs.rows.check_rows.Goals.{then-d-width-eq0, else-d-width-eq0}
use Rattle.drift.proofs.rows.check_rows.Goals as goal

pub returns-then-n-gt1024 : goal.returns-then-n-gt1024
unfolding rows_layout
returns-then-n-gt1024 c = rw (lt-ltb 1024 (length c.args.d.now / c.args.width) c.if-n-gt1024.true)

pub returns : goal.returns
unfolding rows_layout
returns c =
    let a = c.args in
    rw (le-ltb 1024 (length a.d.now / a.width) c.if-n-gt1024.false)
    (c.sound_if.ensures ∙ ap sound_if (elim c.if-d-width-eq0.branch [
      | then-d-width-eq0 w ↦ w.sound_if-is ∙ table_from_all wide_field_ok a.width a.d.now w.if-d-width-eq0.true w.all.ensures.ran (λ i b q k. search rules)
      | else-d-width-eq0 w ↦ w.sound_if-is ∙ table_from_odd wide_field_ok a.width a.d.now w.if-d-width-eq0.false
    ]))

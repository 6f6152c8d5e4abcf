-- `sheet::check`: the tests, in the order of the refusals.
use mathlib.Core.Path.{ap, ◌∙◌}
use native.Mathlib.Omega.{arith}
use lib.ListN.{length}
use borrow.Author.Tests.{lt-ltb, le-ltb}
use Rattle.wire.specs.Layout.{sound_if}
use Rattle.sheet.specs.Sheet.{order_count, position_count, sheet_layout}
use Rattle.sheet.proofs.check.Goals.{then-order_count-gt1024-via-then-order_count-gt1024, then-order_count-gt1024-via-else-order_count-gt1024+then-position_count-gt1024}
use Rattle.sheet.proofs.check.Goals as goal

pub returns-then-sheet-lt24 : goal.returns-then-sheet-lt24
unfolding sheet_layout
returns-then-sheet-lt24 c = rw (lt-ltb (length c.args.sheet.now) 24 c.if-sheet-lt24.true)

pub returns-then-order_count-gt1024 : goal.returns-then-order_count-gt1024
unfolding sheet_layout
returns-then-order_count-gt1024 c =
    let s = c.args.sheet.now in
    let o = c.order_count.ensures in
    elim c.then-order_count-gt1024.branch [
      | then-order_count-gt1024-via-then-order_count-gt1024 w ↦
          rw (le-ltb (length s) 24 c.if-sheet-lt24.false, lt-ltb 1024 (order_count s) (omega (arith, o, w.if-order_count-gt1024.true)))
      | then-order_count-gt1024-via-else-order_count-gt1024+then-position_count-gt1024 w ↦
          rw (
            le-ltb (length s) 24 c.if-sheet-lt24.false,
            le-ltb 1024 (order_count s) (omega (arith, o, w.if-order_count-gt1024.false)),
            lt-ltb 1024 (position_count s) (omega (arith, w.position_count.ensures, w.if-position_count-gt1024.true)),
          )
    ]

pub returns : goal.returns
unfolding sheet_layout
returns c =
    let s = c.args.sheet.now in
    let o = c.order_count.ensures in
    let p = c.position_count.ensures in
    rw (
      le-ltb (length s) 24 c.if-sheet-lt24.false,
      le-ltb 1024 (order_count s) (omega arith),
      le-ltb 1024 (position_count s) (omega arith),
    )
    (c.sound_if.ensures ∙ ap sound_if c.parts_ok.ensures)

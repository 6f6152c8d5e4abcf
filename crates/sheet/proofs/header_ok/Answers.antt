-- `sheet::header_ok`: the tests of the offsets and of the first mark together, then that of the second.
use mathlib.Core.Path.{◌≡◌, sym, ◌∙◌}
use mathlib.Core.Bool.{true, false, ◌&&◌}
use lib.ListN.{length, drop}
use Rattle.wire.specs.Le.{le}
use Rattle.sheet.specs.Sheet.{order_count, position_count, offsets_ok, mark_ok, header_ok}
use Rattle.sheet.proofs.header_ok.Goals.{then-offsets_ok, else-offsets_ok}
use Rattle.sheet.proofs.header_ok.Goals as goal

pub returns-then-mark_ok : goal.returns-then-mark_ok
unfolding header_ok
returns-then-mark_ok c =
    let s = c.args.sheet.now in
    let o : c.offsets_ok.result ≡ offsets_ok (order_count s) (le 4 (drop 4 s)) (position_count s) (le 4 (drop 12 s)) (length s) = cc in
    let two : (offsets_ok (order_count s) (le 4 (drop 4 s)) (position_count s) (le 4 (drop 12 s)) (length s) && mark_ok (le 4 (drop 16 s)) (order_count s)) ≡ true =
    elim c.if-offsets_ok.branch [
      | then-offsets_ok w ↦
          rw (← o, w.if-offsets_ok.true, ← c.order_count-orders.ensures, ← w.u32_at-then-offsets_ok.ensures, ← w.mark_ok.ensures) (sym w.value-is ∙ c.if-mark_ok.true)
      | else-offsets_ok w ↦ rw (← o, w.if-offsets_ok.false) (sym (w.value-is ∙ w.if-offsets_ok.false) ∙ c.if-mark_ok.true)
    ] in
    rw two (cc)

pub returns-else-mark_ok : goal.returns-else-mark_ok
unfolding header_ok
returns-else-mark_ok c =
    let s = c.args.sheet.now in
    let o : c.offsets_ok.result ≡ offsets_ok (order_count s) (le 4 (drop 4 s)) (position_count s) (le 4 (drop 12 s)) (length s) = cc in
    let two : (offsets_ok (order_count s) (le 4 (drop 4 s)) (position_count s) (le 4 (drop 12 s)) (length s) && mark_ok (le 4 (drop 16 s)) (order_count s)) ≡ false =
    elim c.if-offsets_ok.branch [
      | then-offsets_ok w ↦
          rw (← o, w.if-offsets_ok.true, ← c.order_count-orders.ensures, ← w.u32_at-then-offsets_ok.ensures, ← w.mark_ok.ensures) (sym w.value-is ∙ c.if-mark_ok.false)
      | else-offsets_ok w ↦ rw (← o, w.if-offsets_ok.false)
    ] in
    rw two c.if-mark_ok.false

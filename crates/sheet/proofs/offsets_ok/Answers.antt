-- `sheet::offsets_ok`: the first two tests together, then the third.
use Prim.Native.Nat.{◌+◌, ◌*◌}
use mathlib.Core.Path.{◌≡◌, sym, ◌∙◌}
use mathlib.Core.Bool.{true, false, ◌&&◌}
use lib.Dec.{eqb}
use borrow.Author.Tests.{eq-eqb, ne_eqb}
use Rattle.sheet.specs.Sheet.{offsets_ok}
use Rattle.sheet.proofs.offsets_ok.Goals.{then-first-eq24, else-first-eq24}
use Rattle.sheet.proofs.offsets_ok.Goals as goal

pub returns-then-second-end : goal.returns-then-second-end
unfolding offsets_ok
returns-then-second-end c =
    let a = c.args in
    let two : (eqb a.first 24 && eqb a.second (24 + 24 * a.orders)) ≡ true = elim c.if-first-eq24.branch [
      | then-first-eq24 w ↦ rw (eq-eqb a.first 24 w.if-first-eq24.true) (sym w.value-is ∙ c.if-second-end.true)
      | else-first-eq24 w ↦ rw (ne_eqb a.first 24 w.if-first-eq24.false) (sym (w.value-is ∙ ne_eqb a.first 24 w.if-first-eq24.false) ∙ c.if-second-end.true)
    ] in
    rw two

pub returns-else-second-end : goal.returns-else-second-end
unfolding offsets_ok
returns-else-second-end c =
    let a = c.args in
    let two : (eqb a.first 24 && eqb a.second (24 + 24 * a.orders)) ≡ false = elim c.if-first-eq24.branch [
      | then-first-eq24 w ↦ rw (eq-eqb a.first 24 w.if-first-eq24.true) (sym w.value-is ∙ c.if-second-end.false)
      | else-first-eq24 w ↦ rw (ne_eqb a.first 24 w.if-first-eq24.false)
    ] in
    rw two c.if-second-end.false

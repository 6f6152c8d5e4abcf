-- `State::same`: the tests, one after the other.
use native.Mathlib.Omega.{arith}
use mathlib.Core.Bool.{Bool, true, false}
use mathlib.Core.Path.{◌≡◌, sym, ◌∙◌}
use Rattle.state.specs.State.{same_state}
use Rattle.state.proofs.State.same.Goals as goal
use Rattle.state.proofs.State.same.Goals.{then-same_marks, else-same_marks}

pub returns-then-same_orders : goal.returns-then-same_orders
unfolding same_state
returns-then-same_orders c =
    elim c.if-same_marks.branch [
      | then-same_marks w ↦
          let orders = sym w.same_orders.ensures ∙ sym w.value-is ∙ c.if-same_orders.true in
          rw (sym c.same_marks.ensures ∙ w.if-same_marks.true, ← c.text-s.ensures, ← c.text-t.ensures, orders) c.same_positions.ensures
      | else-same_marks w ↦ let no : ◌≡◌ {A = Bool} false true = sym w.if-same_marks.false ∙ sym w.value-is ∙ c.if-same_orders.true in absurd (grind arith)
    ]

pub returns-else-same_orders : goal.returns-else-same_orders
unfolding same_state
returns-else-same_orders c =
    elim c.if-same_marks.branch [
      | then-same_marks w ↦
          let orders = sym w.same_orders.ensures ∙ sym w.value-is ∙ c.if-same_orders.false in
          rw (sym c.same_marks.ensures ∙ w.if-same_marks.true, ← c.text-s.ensures, ← c.text-t.ensures, orders, c.if-same_orders.false)
      | else-same_marks w ↦ rw (c.if-same_orders.false, sym c.same_marks.ensures ∙ w.if-same_marks.false)
    ]

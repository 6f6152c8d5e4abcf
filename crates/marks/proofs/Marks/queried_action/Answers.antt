-- `marks::Marks::queried_action`: question by question.
use mathlib.Core.Path.{sym, ◌∙◌}
use Rattle.marks.specs.Action.{queried_action}
use Rattle.marks.proofs.Marks.queried_action.Goals as goal

pub returns-then-is_open : goal.returns-then-is_open
unfolding queried_action
returns-then-is_open c = rw (sym c.is_open.ensures ∙ c.if-is_open.true)

pub returns-then-is_open-2 : goal.returns-then-is_open-2
unfolding queried_action
returns-then-is_open-2 c = rw (sym c.is_open.ensures ∙ c.if-is_open.false, sym c.is_open-2.ensures ∙ c.if-is_open-2.true)

pub returns-then-is_open-3 : goal.returns-then-is_open-3
unfolding queried_action
returns-then-is_open-3 c = rw (sym c.is_open.ensures ∙ c.if-is_open.false, sym c.is_open-2.ensures ∙ c.if-is_open-2.false, sym c.is_open-3.ensures ∙ c.if-is_open-3.true)

pub returns-then-any_unfilled : goal.returns-then-any_unfilled
unfolding queried_action
returns-then-any_unfilled c =
    rw (
      sym c.is_open.ensures ∙ c.if-is_open.false,
      sym c.is_open-2.ensures ∙ c.if-is_open-2.false,
      sym c.is_open-3.ensures ∙ c.if-is_open-3.false,
      sym c.any_unfilled.ensures ∙ c.if-any_unfilled.true,
    )

pub returns : goal.returns
unfolding queried_action
returns c =
    rw (
      sym c.is_open.ensures ∙ c.if-is_open.false,
      sym c.is_open-2.ensures ∙ c.if-is_open-2.false,
      sym c.is_open-3.ensures ∙ c.if-is_open-3.false,
      sym c.any_unfilled.ensures ∙ c.if-any_unfilled.false,
    )

-- `marks::Marks::determine_recovery_action`: question by question, in the order of the definition.
use mathlib.Core.Path.{sym, ◌∙◌}
use Rattle.marks.specs.Action.{action_of, queried_action}
use Rattle.marks.proofs.NoOrders.{count_zero, count_some}
use Rattle.marks.proofs.Marks.determine_recovery_action.Goals as goal

pub returns-then-self : goal.returns-then-self
unfolding action_of
returns-then-self c = rw c.if-self.true

pub returns-then-self-2 : goal.returns-then-self-2
unfolding action_of
returns-then-self-2 c = rw (c.if-self.false, c.if-self-2.true)

pub returns-then-is_open : goal.returns-then-is_open
unfolding action_of
returns-then-is_open c = rw (c.if-self.false, c.if-self-2.false, sym c.is_open.ensures ∙ c.if-is_open.true)

pub returns-then-count-eq0 : goal.returns-then-count-eq0
unfolding action_of
returns-then-count-eq0 c =
    let a = c.args in
    rw (c.if-self.false, c.if-self-2.false, sym c.is_open.ensures ∙ c.if-is_open.false, count_zero a.count a.orders.now c.if-count-eq0.true)

pub returns-then-any_intent : goal.returns-then-any_intent
unfolding action_of
returns-then-any_intent c =
    let a = c.args in
    rw (
      c.if-self.false,
      c.if-self-2.false,
      sym c.is_open.ensures ∙ c.if-is_open.false,
      count_some a.count a.orders.now c.if-count-eq0.false,
      sym c.any_intent.ensures ∙ c.if-any_intent.true,
    )

pub returns : goal.returns
unfolding action_of queried_action
returns c =
    let a = c.args in
    rw (
      c.if-self.false,
      c.if-self-2.false,
      sym c.is_open.ensures ∙ c.if-is_open.false,
      count_some a.count a.orders.now c.if-count-eq0.false,
      sym c.any_intent.ensures ∙ c.if-any_intent.false,
    )
    c.queried_action.ensures

-- `State::check`: the calls, one after the other.
use mathlib.Core.Path.{◌∙◌}
use Rattle.state.specs.State.{state_layout}
use Rattle.state.proofs.State.check.Goals as goal

pub returns : goal.returns
unfolding state_layout
returns c =
    c.both-3.ensures
    ∙ rw (
      c.both-2.ensures,
      c.both.ensures,
      c.check_positions-held.ensures,
      c.check_refs-refs.ensures,
      c.u32_at.ensures,
      c.check_orders-records.ensures,
      c.check-whole.ensures,
    )

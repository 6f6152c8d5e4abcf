-- `entry::target_shares`: the operations in the Rust's order; signed numbers are read back from their bits.
use mathlib.Core.Path.{◌∙◌}
use mathlib.Core.Bool.{true, false}
use mir.Syntax.{w64}
use mir.ValLaws.{to_z-of_z}
use Rattle.drift.specs.Entry.{target_shares}
use Rattle.drift.proofs.Answers.{sign_test}
use Rattle.drift.proofs.entry.target_shares.Goals as goal

pub returns-then-price-gt0 : goal.returns-then-price-gt0
unfolding target_shares
returns-then-price-gt0 c =
    to_z-of_z w64 c.saturating_i64.result (record { sfits = c.saturating_i64.type_inv })
    ∙ c.saturating_i64.ensures
    ∙ rw (
      c.nearest_i64.ensures,
      c.nearest_i64-then-price-gt0.ensures,
      to_z-of_z w64 c.args.equity c.ranges.equity,
      to_z-of_z w64 c.args.price c.ranges.price,
      sign_test c.args.price true c.ranges.price c.if-price-gt0.true,
    )

pub returns-else-price-gt0 : goal.returns-else-price-gt0
unfolding target_shares
returns-else-price-gt0 c = rw (sign_test c.args.price false c.ranges.price c.if-price-gt0.false)

-- `rows::weight_ok`: the two comparisons.
use mathlib.Core.Path.{sym, ◌∙◌}
use lib.Ieee.{neg, of_bits, of_int}
use Rattle.drift.proofs.Weights.{weight_tests}
use Rattle.drift.proofs.rows.weight_ok.Goals as goal

pub returns-then-w : goal.returns-then-w
unfolding of_bits of_int neg
returns-then-w c = sym (weight_tests c.args.w ∙ rw c.if-w.true)

pub returns-else-w : goal.returns-else-w
unfolding of_bits of_int neg
returns-else-w c = sym (weight_tests c.args.w ∙ rw c.if-w.false)

-- `run::same_marks`: the derived test of the marks with the other's time.
use borrow.Author.Rules.{rules}
use mathlib.Core.Path.{◌∙◌}
use mir.Syntax.{w64}
use mir.Val.{SFits}
use mir.ValLaws.{to_z-of_z}
use Rattle.state.specs.State.{same_truth, same_int, same_pair, same_marks}
use Rattle.checkpoint.specs.Checkpoint.{same_checkpoint}
use lib.Dec.{eqb}
use Rattle.state.proofs.Same.{checkpoint_is, truth_is, int_is, int_same, pair_is, nine}
use Rattle.state.proofs.run.same_marks.Goals as goal

pub returns : goal.returns
unfolding same_marks
returns c =
    let m = c.args.m in
    let n = c.args.n in
    let t : SFits w64 n.time = search rules in
    let e : SFits w64 m.equity = search rules in
    let f : SFits w64 n.equity = search rules in
    c.eq.ensures
    ∙ rw (
      checkpoint_is m.checkpoint n.checkpoint,
      to_z-of_z w64 n.time t,
      to_z-of_z w64 m.equity e,
      int_same n.time,
      int_is m.equity n.equity e f,
      truth_is m.completed n.completed,
      truth_is m.cancelfailed n.cancelfailed,
      pair_is m.positions n.positions,
      pair_is m.quotes n.quotes,
      pair_is m.account n.account,
      pair_is m.cancel n.cancel,
    ) (nine (same_checkpoint m.checkpoint n.checkpoint) (eqb m.number n.number) (same_int m.equity n.equity) (same_truth m.completed n.completed) (same_pair m.positions n.positions) (same_pair m.quotes n.quotes) (same_pair m.account n.account) (same_pair m.cancel n.cancel) (same_truth m.cancelfailed n.cancelfailed))

-- `words::place`: the search begins with all and ends with none.
use native.Mathlib.Nat.{le_refl}
use lib.ListN.{length}
use Rattle.drift.proofs.Halves.{all_rising, halved}
use Rattle.drift.proofs.words.place.Goals as goal

pub loop-size-preserved : goal.loop-size-preserved
loop-size-preserved c =
    let ks = c.args.keys.now in
    let l = c.loop-size in
    halved ks (length ks) (le_refl (length ks)) (all_rising ks c.requires) c.args.x l.low l.size c.loop-size-test.true l.invariant c.step-low.result c.step-low.ensures

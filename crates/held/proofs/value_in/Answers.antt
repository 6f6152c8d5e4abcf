-- `held::value_in`: the lines of what is held, in the fronts of the table's arrays.
use mathlib.Core.Path.{ap, ◌∙◌}
use mathlib.Core.List.{map}
use native.Mathlib.Omega.{arith}
use lib.ListN.{length-take}
use Rattle.held.specs.Value.{worth, value_of}
use Rattle.held.proofs.Worths.{front_worth}
use Rattle.held.proofs.value_in.Goals as goal

pub shared_whole_as_front-sum_worth : goal.shared_whole_as_front-sum_worth
shared_whole_as_front-sum_worth g c =
    (c.fill-n.ensures.room, omega (arith, c.args.table.now.small))

pub shared_whole_as_front-sum_worth-2 : goal.shared_whole_as_front-sum_worth-2
shared_whole_as_front-sum_worth-2 g c =
    (c.fill-n.ensures.room, omega (arith, c.args.table.now.small))

pub sum_worth-requires : goal.sum_worth-requires
sum_worth-requires g c =
    let f = c.fill-n.ensures.filled in
    record { few = simp length-take (omega (arith, f.most)); paired = simp length-take (omega (arith, f.quantities, f.costs)) }

pub returns : goal.returns
returns g c =
    let t = c.fill-n.new.self in
    let f = c.fill-n.ensures in
    c.sum_worth.ensures ∙ ap value_of (front_worth t.keys t.quantities t.weights t.costs c.fill-n.result f.filled.quantities ∙ ap (map worth) f.lines)

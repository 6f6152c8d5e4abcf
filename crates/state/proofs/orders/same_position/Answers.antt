-- `orders::same_position`: the derived test.
use borrow.Author.Rules.{rules}
use mathlib.Core.Path.{◌∙◌}
use mir.Syntax.{w64}
use mir.Val.{SFits}
use Rattle.symbol.specs.Symbol.{same_symbol}
use Rattle.state.specs.State.{same_int, same_position}
use Rattle.state.proofs.Same.{int_is, three}
use Rattle.state.proofs.orders.same_position.Goals as goal

pub returns : goal.returns
unfolding same_position
returns c =
    let p = c.args.p in
    let q = c.args.q in
    let d : SFits w64 p.quantity = search rules in
    let e : SFits w64 q.quantity = search rules in
    let f : SFits w64 p.cost = search rules in
    let g : SFits w64 q.cost = search rules in
    c.eq.ensures
    ∙ rw (int_is p.quantity q.quantity d e, int_is p.cost q.cost f g) (three (same_symbol p.symbol q.symbol) (same_int p.quantity q.quantity) (same_int p.cost q.cost))

-- `orders::same_order`: every part, as the calls say; the ids are compared as wider numbers.
use borrow.Author.Rules.{rules}
use mir.Syntax.{w32}
use mir.Val.{SFits}
use Rattle.state.specs.State.{same_order}
use Rattle.state.proofs.Same.{id_is}
use Rattle.state.proofs.orders.same_order.Goals as goal

pub returns : goal.returns
unfolding same_order
returns c =
    let a = c.args in
    let f : SFits w32 a.o.id = search rules in
    let g : SFits w32 a.p.id = search rules in
    rw (c.same_texts.ensures, c.same_flags.ensures, c.eq.ensures, id_is a.o.id a.p.id f g)

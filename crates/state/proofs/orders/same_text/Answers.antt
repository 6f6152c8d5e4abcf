-- `orders::same_text`: the slices' own test.
use mathlib.Core.Path.{◌∙◌}
use Rattle.state.proofs.Same.{bytes_are}
use Rattle.state.proofs.orders.same_text.Goals as goal

pub returns : goal.returns
returns c = c.eq.ensures ∙ rw (c.text_or.ensures, c.text_or-2.ensures) (bytes_are _ _)

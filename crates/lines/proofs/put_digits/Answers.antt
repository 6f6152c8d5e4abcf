-- `lines::put_digits`: the digits still to be written, put before those that are, are the whole.
use mathlib.Core.Path.{sym, ◌∙◌}
use native.Mathlib.Omega.{arith}
use lib.ListN.{length-set}
use Rattle.lines.proofs.Digits.{two_places, one_less, digits_turn, digits_last}
use Rattle.lines.proofs.put_digits.Goals as goal

pub loop-rest-preserved : goal.loop-rest-preserved
loop-rest-preserved c =
    let l = c.loop-rest in
    let two = two_places l.first l.rest c.loop-rest-test.true l.invariant.3 in (
      length-set l.d _ _ ∙ l.invariant.0,
      omega arith,
      omega (arith, two),
      one_less l.first l.rest l.invariant.2 l.invariant.3,
      sym (digits_turn l.d l.first l.rest l.invariant.2 (omega arith) c.loop-rest-test.true) ∙ l.invariant.4,
    )

pub returns : goal.returns
returns c =
    let l = c.loop-rest in
    (omega arith, sym (digits_last l.d l.first l.rest l.invariant.2 (omega arith) c.loop-rest-test.false) ∙ l.invariant.4)

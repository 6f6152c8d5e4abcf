-- `float::root::first_digits` meets its contract. The loop's invariant is `Reached`. Assumes nothing.
use Rattle.float.proofs.RootDigits.{step}
use Rattle.float.proofs.root.first_digits.Goals as goal

pub loop-i-preserved : goal.loop-i-preserved
loop-i-preserved c =
    let l = c.loop-i in
    let n = c.next_digit-digits in
    step _ l.digits.0 l.digits.1.0 l.rest l._i l.invariant n.result.root n.result.left n.ensures.number n.result.whole n.ensures.most

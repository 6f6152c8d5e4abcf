-- `float::root::first_digits` meets its contract. The loop's invariant is `Reached`. Assumes nothing.
use Rattle.float.proofs.RootDigits.{Reached}
use Rattle.float.proofs.root.first_digits.Given as goal

abbrev pub invariant-loop-i : goal.invariant-loop-i
invariant-loop-i l = Reached l.w l.digits.0 l.digits.1.0 l.rest l._i

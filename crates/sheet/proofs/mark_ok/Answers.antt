-- `sheet::mark_ok`: the tests, one after the other.
use borrow.Author.Tests.{eq-eqb, ne_eqb}
use Rattle.sheet.specs.Sheet.{mark_ok}
use Rattle.sheet.proofs.mark_ok.Goals as goal

pub returns-then-mark-eq0 : goal.returns-then-mark-eq0
unfolding mark_ok
returns-then-mark-eq0 c = rw (eq-eqb c.args.mark 0 c.if-mark-eq0.true)

pub returns-then-mark-eq1 : goal.returns-then-mark-eq1
unfolding mark_ok
returns-then-mark-eq1 c = let m = c.args.mark in rw (ne_eqb m 0 c.if-mark-eq0.false, eq-eqb m 1 c.if-mark-eq1.true)

pub returns-else-mark-eq1 : goal.returns-else-mark-eq1
unfolding mark_ok
returns-else-mark-eq1 c = let m = c.args.mark in rw (ne_eqb m 0 c.if-mark-eq0.false, ne_eqb m 1 c.if-mark-eq1.false)

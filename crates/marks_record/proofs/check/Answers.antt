-- `marks_record::check`: by the length; then what the calls ensure, put together.
use borrow.Author.Tests.{eq-eqb, ne_eqb}
use mathlib.Core.Path.{◌∙◌}
use native.Mathlib.Omega.{arith}
use lib.ListN.{length-drop}
use Rattle.marks_record.specs.MarksRecord.{marks_ok}
use Rattle.marks_record.proofs.check.Goals as goal

pub returns-then-s-ne176 : goal.returns-then-s-ne176
unfolding marks_ok
returns-then-s-ne176 c = rw (ne_eqb _ _ c.if-s-ne176.true)

pub numbers_ok-requires : goal.numbers_ok-requires
numbers_ok-requires c = rw (c.from-2.ensures, length-drop) (omega arith)

pub returns : goal.returns
unfolding marks_ok
returns c =
    c.sound_if.ensures
    ∙ rw (
      c.numbers_ok.ensures,
      c.from-2.ensures,
      c.u16_at.ensures,
      c.u32_at.ensures,
      c.truths_ok.ensures,
      c.from.ensures,
      c.u64_of-checkpoint.ensures,
      eq-eqb _ _ c.if-s-ne176.false,
    )

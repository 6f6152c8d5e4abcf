-- `marks_record::numbers_ok`: what the chain answers.
use Rattle.std.proofs.Common.{rules, arith, length-drop}
use Rattle.wire.proofs.Chains.{every_from_all}
use Rattle.marks_record.specs.MarksRecord.{number_ok}
use Rattle.std.proofs.lemmas.Iterator.{serves_from_Range}
use Rattle.marks_record.proofs.numbers_ok.Goals as goal

pub returns : goal.returns
returns c = every_from_all number_ok 16 c.args.s.now c.all.ensures.ran (λ i b q k. search rules)

pub all-requires-clause-callable : goal.all-requires-clause-callable
all-requires-clause-callable c = serves_from_Range (λ x q k. search rules) (λ x low high. grind (arith, length-drop, high, c.requires))

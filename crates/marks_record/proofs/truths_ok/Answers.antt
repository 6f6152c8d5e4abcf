-- `marks_record::truths_ok`: what the chain answers.
use Rattle.std.proofs.Common.{rules, arith, ◌≡◌, ◌*◌}
use Rattle.wire.proofs.Chains.{every_from_all}
use Rattle.marks_record.specs.MarksRecord.{truth_ok}
use Rattle.marks_record.proofs.truths_ok.Goals as goal

pub returns : goal.returns
returns c = every_from_all truth_ok 1 c.args.s.now c.all.ensures.ran (λ i b q k. let one : 1 * i ≡ i = omega arith in rw one (search rules))

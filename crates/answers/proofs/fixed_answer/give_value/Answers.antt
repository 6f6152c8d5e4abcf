-- `answers::fixed_answer::give_value` meets its contract: the value in eight bytes, all of them written, or in cleared bytes, by the contract of `within`;
-- the value is read back from its bits. Assumes nothing.
use mathlib.Core.Path.{◌≡◌, refl, ap, ◌∙◌}
use mathlib.Core.List.{List}
use Prim.Native.Nat.{ℕ}
use lib.ListN.{length}
use lib.Seq.{sets}
use mir.Syntax.{w64}
use mir.Val.{of_z}
use mir.ValLaws.{to_z-of_z}
use Rattle.wire.specs.Le.{bytes_of}
use Rattle.answers.proofs.Answers.{value_within}
use Rattle.answers.proofs.Given.{within_whole, within_same}
use Rattle.answers.proofs.Words.{number_as_cleared}
use Rattle.answers.proofs.fixed_answer.give_value.Goals as goal

pub returns-then-answer-eq8 : goal.returns-then-answer-eq8
returns-then-answer-eq8 c =
    let v = c.args.v in
    let d = c.args.answer.now in
    let bits : c.cast_unsigned.result ≡ of_z w64 v = c.cast_unsigned.ensures ∙ ap (of_z w64) (to_z-of_z w64 v c.ranges.v) in
    value_within v (length d)
    (within_whole 8 0 c.if-answer-eq8.true
    (c.put_whole_u64.ensures ∙ ap (λ (n : ℕ). sets d 0 (bytes_of 8 n)) bits ∙ number_as_cleared d (of_z w64 v) c.if-answer-eq8.true))

pub returns : goal.returns
returns c =
    let v = c.args.v in
    let bits : c.cast_unsigned-2.result ≡ of_z w64 v = c.cast_unsigned-2.ensures ∙ ap (of_z w64) (to_z-of_z w64 v c.ranges.v) in
    let bytes = c.put_u64.ensures ∙ ap (λ (n : ℕ). sets c.clear.new.d 0 (bytes_of 8 n)) bits
    ∙ ap (λ (d : List ℕ). sets d 0 (bytes_of 8 (of_z w64 v))) c.clear.ensures in
    value_within v (length c.args.answer.now)
    (within_same 8 refl (c.put_u64.auto.d ∙ c.clear.auto.d) bytes c.within.ensures)

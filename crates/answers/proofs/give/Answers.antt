-- `answers::give` meets its contract: two numbers in sixteen bytes, all of them written, or in cleared bytes, by the contract of `within`. Assumes nothing.
use mathlib.Core.Path.{refl, ap, ◌∙◌}
use mathlib.Core.List.{List}
use Prim.Native.Nat.{ℕ}
use lib.Seq.{sets}
use Rattle.wire.specs.Le.{bytes_of}
use Rattle.answers.specs.Answer.{answer_bytes}
use Rattle.answers.proofs.Given.{within_whole, within_same}
use Rattle.answers.proofs.Words.{numbers_as_cleared}
use Rattle.answers.proofs.give.Goals as goal

pub returns-then-answer-eq16 : goal.returns-then-answer-eq16
unfolding answer_bytes
returns-then-answer-eq16 c =
    let a = c.args in
    let n = a.n in
    within_whole 16 n.refusal c.if-answer-eq16.true
    (c.put_whole_u64-then-answer-eq16.ensures
    ∙ ap (λ (d : List ℕ). sets d 8 (bytes_of 8 n.b)) c.put_whole_u64.ensures
    ∙ numbers_as_cleared a.answer.now n.a n.b c.if-answer-eq16.true)

pub returns : goal.returns
unfolding answer_bytes
returns c =
    let n = c.args.n in
    within_same 16 refl (c.put_u64-2.auto.d ∙ c.put_u64.auto.d ∙ c.clear.auto.d)
    (c.put_u64-2.ensures
    ∙ ap (λ (d : List ℕ). sets d 8 (bytes_of 8 n.b)) (c.put_u64.ensures ∙ ap (λ (d : List ℕ). sets d 0 (bytes_of 8 n.a)) c.clear.ensures))
    c.within.ensures

-- `entry::actual_weight`: by the two tests and the product's answer.
use mathlib.Core.Path.{◌≡◌, sym, subst, ap, ◌∙◌}
use mathlib.Core.Bool.{true, false}
use lib.IntN.{◌*ℤ◌}
use mir.Syntax.{w64}
use mir.Val.{SFits}
use mir.ValLaws.{to_z-of_z}
use Rattle.std.specs.Prelude.{Option}
use lib.IntN.{ℤ}
use Rattle.std.specs.Option.{ok_or}
use Rattle.std.proofs.lemmas.Result.{err_from_is_err_and}
use Rattle.wire.specs.declared.refusal.Refusal.TheVariants as Refusal
use Rattle.drift.specs.Entry.{fits64, actual_weight}
use Rattle.drift.specs.Code.{whole_of, weight_answer}
use Rattle.drift.proofs.Answers.{value_if, value_ok, value_err, whole_from, whole_or, sign_test_below}
use Rattle.drift.proofs.Integers.{fits_of}
use Rattle.drift.proofs.entry.actual_weight.Goals.{then-equity-le0-via-then-equity-le0, then-equity-le0-via-else-equity-le0+then-price-le0, After-ok_or}
use Rattle.drift.proofs.entry.actual_weight.Goals as goal

-- what the product's answer is
product : (c : After-ok_or) → c.ok_or.result ≡ value_if (fits64 (c.args.quantity *ℤ c.args.price)) (c.args.quantity *ℤ c.args.price)
product c =
    let z = c.args.quantity *ℤ c.args.price in
    let w : c.checked_mul.result ≡ whole_of z = rw (to_z-of_z w64 c.args.quantity c.ranges.quantity, to_z-of_z w64 c.args.price c.ranges.price) at (whole_from _ _ c.checked_mul.ensures) in
    c.ok_or.ensures.value ∙ ap (λ (o : Option ℤ). ok_or o Refusal.Overflow) w ∙ whole_or z

pub returns-then-equity-le0 : goal.returns-then-equity-le0
unfolding weight_answer actual_weight
returns-then-equity-le0 c =
    elim c.then-equity-le0.branch [
      | then-equity-le0-via-then-equity-le0 w ↦ rw (sign_test_below c.args.equity true c.ranges.equity w.if-equity-le0.true)
      | then-equity-le0-via-else-equity-le0+then-price-le0 w ↦ rw (sign_test_below c.args.equity false c.ranges.equity w.if-equity-le0.false, sign_test_below c.args.price true c.ranges.price w.if-price-le0.true)
    ]

pub returns-in_err-worth : goal.returns-in_err-worth
unfolding weight_answer actual_weight
returns-in_err-worth c =
    let z = c.args.quantity *ℤ c.args.price in
    let p = err_from_is_err_and c.from_residual.result c.from_residual.ensures.1 in
    let r = value_err (fits64 z) z c.in_err-worth.field-0.0 (sym (product (goal.at.returns-in_err-worth c).After-ok_or) ∙ c.in_err-worth.was) in
    rw (p.1, p.2, r.1, sign_test_below c.args.equity false c.ranges.equity c.if-equity-le0.false, sign_test_below c.args.price false c.ranges.price c.if-price-le0.false, r.0)

pub returns : goal.returns
unfolding weight_answer actual_weight
returns c =
    let z = c.args.quantity *ℤ c.args.price in
    let x = c.in_ok-worth.worth in
    let r = value_ok (fits64 z) z x (sym (product (goal.at.returns c).After-ok_or) ∙ c.in_ok-worth.was) in
    rw (
      c.nearest_i64.ensures,
      c.nearest_i64-2.ensures,
      to_z-of_z w64 x (subst (SFits w64) (sym r.1) (fits_of z r.0)),
      to_z-of_z w64 c.args.equity c.ranges.equity,
      r.1,
      sign_test_below c.args.equity false c.ranges.equity c.if-equity-le0.false,
      sign_test_below c.args.price false c.ranges.price c.if-price-le0.false,
      r.0,
    )

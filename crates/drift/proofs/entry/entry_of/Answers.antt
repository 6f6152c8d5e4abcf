-- `entry::entry_of`: by the answers of the weight and of the difference.
use mathlib.Core.Path.{◌≡◌, sym, subst, ap, ◌∙◌}
use lib.IntN.{ℤ, ◌-ℤ◌}
use mir.Syntax.{w64}
use mir.Val.{SFits}
use mir.ValLaws.{to_z-of_z}
use mathlib.Core.Bool.{true, cond}
use lib.IntN.{◌*ℤ◌}
use Rattle.std.specs.Prelude.{Option}
use Rattle.std.specs.Option.{ok_or}
use Rattle.std.proofs.lemmas.Result.{err_from_is_err_and}
use Rattle.wire.specs.declared.refusal.Refusal.TheVariants as Refusal
use Rattle.drift.specs.Entry.{fits64, needed, actual_weight, target_shares, entry_of, entry_fits}
use Rattle.drift.specs.Code.{whole_of, weight_answer, made_of}
use Rattle.drift.proofs.Answers.{value_if, value_ok, value_err, whole_from, whole_or}
use Rattle.drift.proofs.Integers.{fits_of}
use Rattle.drift.proofs.entry.entry_of.Goals.{After-actual_weight, After-ok_or}
use Rattle.drift.proofs.entry.entry_of.Goals as goal

weight : (c : After-actual_weight) → c.actual_weight.result ≡ value_if (cond (needed c.args.price c.args.equity) (fits64 (c.args.quantity *ℤ c.args.price)) true) (actual_weight c.args.quantity c.args.price c.args.equity)
unfolding weight_answer
weight c =
    let a = c.args in
    rw (to_z-of_z w64 a.quantity c.ranges.quantity, to_z-of_z w64 a.price c.ranges.price, to_z-of_z w64 a.equity c.ranges.equity) at c.actual_weight.ensures

difference : (c : After-ok_or) → c.ok_or.result ≡ value_if (fits64 (c.args.quantity -ℤ target_shares c.args.weight c.args.price c.args.equity)) (c.args.quantity -ℤ target_shares c.args.weight c.args.price c.args.equity)
difference c =
    let a = c.args in
    let t : c.target_shares-target_shares.result ≡ target_shares a.weight a.price a.equity = rw (to_z-of_z w64 a.price c.ranges.price, to_z-of_z w64 a.equity c.ranges.equity) at c.target_shares-target_shares.ensures in
    let z = a.quantity -ℤ target_shares a.weight a.price a.equity in
    let w : c.checked_sub.result ≡ whole_of z = rw (to_z-of_z w64 a.quantity c.ranges.quantity, to_z-of_z w64 c.target_shares-target_shares.result (record { sfits = c.target_shares-target_shares.type_inv }), t) at (whole_from _ _ c.checked_sub.ensures) in
    c.ok_or.ensures.value ∙ ap (λ (o : Option ℤ). ok_or o Refusal.Overflow) w ∙ whole_or z

pub returns-in_err-actual_weight : goal.returns-in_err-actual_weight
unfolding made_of entry_fits entry_of
returns-in_err-actual_weight c =
    let p = err_from_is_err_and c.from_residual.result c.from_residual.ensures.1 in
    let r = value_err _ _ c.in_err-actual_weight.field-0.0 (sym (weight (goal.at.returns-in_err-actual_weight c).After-actual_weight) ∙ c.in_err-actual_weight.was) in
    rw (p.1, p.2, r.1, r.0)

pub returns-in_err-diff_shares : goal.returns-in_err-diff_shares
unfolding made_of entry_fits entry_of
returns-in_err-diff_shares c =
    let p = err_from_is_err_and c.from_residual-in_err-diff_shares.result c.from_residual-in_err-diff_shares.ensures.1 in
    let a = value_ok _ _ c.in_ok-actual_weight.actual_weight (sym (weight (goal.at.returns-in_err-diff_shares c).After-actual_weight) ∙ c.in_ok-actual_weight.was) in
    let r = value_err _ _ c.in_err-diff_shares.field-0.0 (sym (difference (goal.at.returns-in_err-diff_shares c).After-ok_or) ∙ c.in_err-diff_shares.was) in
    rw (p.1, p.2, r.1, a.0, r.0)

pub returns : goal.returns
unfolding made_of entry_fits entry_of
returns c =
    let q = c.args.quantity in
    let z = q -ℤ target_shares c.args.weight c.args.price c.args.equity in
    let x = c.in_ok-diff_shares.diff_shares in
    let t : c.target_shares-target_shares.result ≡ target_shares c.args.weight c.args.price c.args.equity = rw (to_z-of_z w64 c.args.price c.ranges.price, to_z-of_z w64 c.args.equity c.ranges.equity) at c.target_shares-target_shares.ensures in
    let a = value_ok _ _ c.in_ok-actual_weight.actual_weight (sym (weight (goal.at.returns c).After-actual_weight) ∙ c.in_ok-actual_weight.was) in
    let d = value_ok _ _ x (sym (difference (goal.at.returns c).After-ok_or) ∙ c.in_ok-diff_shares.was) in
    rw (
      a.0,
      d.0,
      to_z-of_z w64 q c.ranges.quantity,
      to_z-of_z w64 c.target_shares-target_shares.result (record { sfits = c.target_shares-target_shares.type_inv }),
      to_z-of_z w64 x (subst (SFits w64) (sym d.1) (fits_of z d.0)),
      t,
      d.1,
      a.1,
    )

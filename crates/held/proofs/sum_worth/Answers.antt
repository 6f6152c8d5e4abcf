-- `held::sum_worth`: what was added and what is left come to the whole, and the sum is within its bounds.
use Prim.Native.Nat.{◌+◌}
use Rattle.std.proofs.Common.{rules, true}
use mathlib.Core.Path.{◌≡◌, sym, ap, subst, ◌∙◌}
use mathlib.Core.List.{[], map}
use native.Mathlib.Omega.{arith}
use lib.IntN.{ℤ, ◌+ℤ◌}
use lib.ListN.{length}
use mir.Syntax.{w64, w128}
use mir.Val.{SFits, to_z, of_z}
use mir.ValLaws.{to_z-of_z}
use Rattle.std.specs.Prelude.{Option}
use Rattle.std.specs.Option.{ok_or}
use Rattle.std.proofs.lemmas.Result.{err_from_is_err_and}
use Rattle.wire.specs.declared.refusal.Refusal.TheVariants as Refusal
use Rattle.drift.specs.Entry.{fits64}
use Rattle.drift.specs.Code.{whole_of, line_at, lines_at}
use Rattle.drift.proofs.Integers.{fits_of}
use Rattle.drift.proofs.Answers.{value_if, value_ok, value_err, whole_or}
use Rattle.drift.proofs.Runs.{left, left_all}
use Rattle.held.specs.Value.{worth, total}
use Rattle.held.proofs.Sums.{sum_fits, low_next, high_next, sum_next, zero_sum, sum_zero}
use Rattle.held.proofs.Worths.{total_next, total_end, fits_next, fits_stop, fits_end}
use Rattle.held.proofs.Valued.{value_product, value_all}
use Rattle.held.proofs.sum_worth.Goals.{After-ok_or, After-from}
use Rattle.held.proofs.sum_worth.Goals as goal

-- what the line at k adds
added : (c : After-ok_or) → let z = worth (line_at [] c.args.quantities.now [] c.args.costs.now c.loop-k.k) in c.ok_or.result ≡ value_if (fits64 z) z
added c =
    let z = worth (line_at [] c.args.quantities.now [] c.args.costs.now c.loop-k.k) in
    let q = to_z-of_z w64 c.cast_signed.result (record { sfits = c.cast_signed.type_inv }) ∙ c.cast_signed.ensures in
    let p = to_z-of_z w64 c.cast_signed-in-loop-k.result (record { sfits = c.cast_signed-in-loop-k.type_inv }) ∙ c.cast_signed-in-loop-k.ensures in
    let w : c.worth_of-worth.result ≡ whole_of z = rw (q, p) at c.worth_of-worth.ensures in
    c.ok_or.ensures.value ∙ ap (λ (o : Option ℤ). ok_or o Refusal.Overflow) w ∙ whole_or z

-- it is an i64, and what the sum takes
summed : (c : After-from) → let z = worth (line_at [] c.args.quantities.now [] c.args.costs.now c.loop-k.k) in
    c.ok_or.result ≡ value_if (fits64 z) z → (fits64 z ≡ true) × (to_z w128 (of_z w128 c.from.result) ≡ z)
summed c e =
    let z = worth (line_at [] c.args.quantities.now [] c.args.costs.now c.loop-k.k) in
    let x = c.in_ok-ok_or.field-0 in
    let r = value_ok (fits64 z) z x (sym e ∙ c.in_ok-ok_or.was) in
    (r.0, to_z-of_z w128 c.from.result (record { sfits = c.from.type_inv }) ∙ c.from.ensures ∙ to_z-of_z w64 x (subst (SFits w64) (sym r.1) (fits_of z r.0)) ∙ r.1)

pub loop-k-init : goal.loop-k-init
loop-k-init c =
    let a = c.args in
    let n = length a.quantities.now in
    let f = line_at [] a.quantities.now [] a.costs.now in
    (rw (← left_all f n), rw (← left_all f n) (zero_sum _), search rules, search rules)

pub overflow_add-sum : goal.overflow_add-sum
overflow_add-sum c =
    let l = c.loop-k in
    let w = summed (goal.at.overflow_add-sum c).After-from (added (goal.at.overflow_add-sum c).After-ok_or) in
    rw w.1 (sum_fits l.k (to_z w128 l.sum-bits) _ l.invariant.2 l.invariant.3 (fits_of _ w.0) (omega arith))

pub loop-k-preserved : goal.loop-k-preserved
loop-k-preserved c =
    let a = c.args in
    let l = c.loop-k in
    let h = c.loop-k-test.true in
    let n = length a.quantities.now in
    let f = line_at [] a.quantities.now [] a.costs.now in
    let s = to_z w128 l.sum-bits in
    let z = worth (f l.k) in
    let w = summed (goal.at.loop-k-preserved c).After-from (added (goal.at.loop-k-preserved c).After-ok_or) in
    let fit = fits_of z w.0 in
    rw (w.1, to_z-of_z w128 (s +ℤ z) (sum_fits l.k s z l.invariant.2 l.invariant.3 fit (omega arith))) (
      l.invariant.0 ∙ fits_next f n l.k h w.0,
      sum_next s z (total (map worth (left f n (l.k + 1)))) ∙ ap (λ (t : ℤ). s +ℤ t) (sym (total_next f n l.k h)) ∙ l.invariant.1,
      low_next l.k s z l.invariant.2 l.invariant.3 fit,
      high_next l.k s z l.invariant.2 l.invariant.3 fit,
    )

pub returns-in_err-ok_or : goal.returns-in_err-ok_or
returns-in_err-ok_or c =
    let a = c.args in
    let l = c.loop-k in
    let n = length a.quantities.now in
    let f = line_at [] a.quantities.now [] a.costs.now in
    let z = worth (f l.k) in
    let p = err_from_is_err_and c.from_residual.result c.from_residual.ensures.1 in
    let r = value_err (fits64 z) z c.in_err-ok_or.field-0.0 (sym (added (goal.at.returns-in_err-ok_or c).After-ok_or) ∙ c.in_err-ok_or.was) in
    rw (p.1, p.2, r.1) (value_product (map worth (lines_at [] a.quantities.now [] a.costs.now n)) (l.invariant.0 ∙ fits_stop f n l.k c.loop-k-test.true r.0))

pub returns : goal.returns
returns c =
    let a = c.args in
    let l = c.loop-k in
    let h = c.loop-k-test.false in
    let n = length a.quantities.now in
    let f = line_at [] a.quantities.now [] a.costs.now in
    let zs = map worth (lines_at [] a.quantities.now [] a.costs.now n) in
    let s : to_z w128 l.sum-bits ≡ total zs = sym (sum_zero (to_z w128 l.sum-bits)) ∙ ap (λ (t : ℤ). to_z w128 l.sum-bits +ℤ t) (sym (total_end f n l.k h)) ∙ l.invariant.1 in
    c.total_of.ensures
    ∙ ap (λ (z : ℤ). value_if (fits64 z) z) s ∙ value_all zs (l.invariant.0 ∙ fits_end f n l.k h)

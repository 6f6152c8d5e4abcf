-- `search::expected_of`: what is read at the place that the chain finds.
use Prim.Native.Nat.{ℕ}
use mathlib.Core.Path.{refl, ap, ◌∙◌}
use native.Mathlib.Omega.{arith}
use lib.ListN.{drop}
use Rattle.std.proofs.Common.{rules}
use Rattle.std.specs.Prelude.{Some}
use mathlib.Core.List.{List}
use mir.Syntax.{w64}
use mir.Val.{to_z}
use mir.ValLaws.{to_z-of_z}
use Rattle.wire.specs.Le.{le}
use Rattle.records.specs.Record.{position_of}
use Rattle.records.specs.Search.{holds}
use Rattle.records.specs.declared.position.Position.{Position}
use Rattle.records.proofs.Firsts.{taken_from_find, place_found}
use Rattle.compare.specs.Report.{expected_of}
use Rattle.compare.proofs.search.expected_of.Goals as goal

pub overflow_mul-i : goal.overflow_mul-i
overflow_mul-i c =
    let here = place_found _ _ _ c.find.result c.in_ok-i.i c.find.ensures.ran (λ x q k. search rules) c.in_ok-i.was in
    omega (arith, here)

pub rest-requires : goal.rest-requires
rest-requires c =
    let here = place_found _ _ _ c.find.result c.in_ok-i.i c.find.ensures.ran (λ x q k. search rules) c.in_ok-i.was in
    omega (arith, here)

pub returns-in_err-i : goal.returns-in_err-i
unfolding expected_of position_of
returns-in_err-i c =
    let y = c.args.y in
    let s = c.args.positions.now in
    let e = taken_from_find (holds y) (λ (p : Position). p.quantity) (expected_of y) refl (λ x xs. refl) position_of 32 s _ c.find.result c.find.ensures.ran (λ i b q k. search rules) in
    c.from_residual.ensures ∙ (rw c.in_err-i.was at e)

pub returns : goal.returns
unfolding expected_of position_of
returns c =
    let y = c.args.y in
    let s = c.args.positions.now in
    let e = taken_from_find (holds y) (λ (p : Position). p.quantity) (expected_of y) refl (λ x xs. refl) position_of 32 s _ c.find.result c.find.ensures.ran (λ i b q k. search rules) in
    let r = c.i64_at in
    ap Some (to_z-of_z w64 r.result (record { sfits = r.type_inv }) ∙ r.ensures ∙ ap (λ (t : List ℕ). to_z w64 (le 8 (drop 16 t))) c.rest.ensures)
    ∙ (rw c.in_ok-i.was at e)

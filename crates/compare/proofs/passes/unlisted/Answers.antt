-- `passes::unlisted`: by the search.
use Prim.Native.Nat.{ℕ}
use mathlib.Core.Path.{◌≡◌, refl, ap, ◌∙◌}
use mathlib.Core.List.{List}
use lib.ListN.{drop}
use mir.Syntax.{w64}
use mir.Val.{to_z}
use mir.ValLaws.{to_z-of_z}
use Rattle.wire.specs.Le.{le}
use Rattle.symbol.specs.Symbol.{field_symbol}
use Rattle.records.specs.Record.{position_of}
use Rattle.compare.proofs.passes.unlisted.Goals as goal

-- a position's parts, by its bytes
symbol_of_lem : (s : List ℕ) → field_symbol s ≡ (position_of s).symbol
unfolding position_of
symbol_of_lem s = refl

quantity_of : (s : List ℕ) → to_z w64 (le 8 (drop 16 s)) ≡ (position_of s).quantity
unfolding position_of
quantity_of s = refl

pub returns-then-holds : goal.returns-then-holds
returns-then-holds c =
    let e = c.of_field-symbol.ensures ∙ ap field_symbol c.rest-p.ensures ∙ symbol_of_lem _ in
    rw (← e, ← c.holds.ensures, c.if-holds.true)

pub returns : goal.returns
returns c =
    let a = c.args in
    let s = drop a.at a.positions.now in
    let r = c.i64_at in
    let e = c.of_field-symbol.ensures ∙ ap field_symbol c.rest-p.ensures ∙ symbol_of_lem s in
    let q = r.ensures ∙ ap (λ (t : List ℕ). to_z w64 (le 8 (drop 16 t))) c.rest-p.ensures ∙ quantity_of s in
    rw (← e, ← c.holds.ensures, c.if-holds.false, ← q, to_z-of_z w64 r.result (record { sfits = r.type_inv }))

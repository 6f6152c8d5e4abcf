-- `passes::missing`: by the flags, then by the search.
use mathlib.Core.Path.{◌≡◌, refl, sym, ap, ◌∙◌}
use mathlib.Core.List.{List}
use Prim.Native.Nat.{ℕ}
use lib.Dec.{eqb}
use lib.ListN.{drop}
use mir.Syntax.{w32}
use mir.ValLaws.{to_z-of_z}
use Rattle.types.specs.Order.{sign_extended}
use Rattle.symbol.specs.Symbol.{field_symbol}
use Rattle.symbol.specs.declared.Symbol.{Symbol}
use Rattle.records.specs.Record.{order_of}
use Rattle.records.specs.Search.{any_where}
use Rattle.sheet.specs.Sheet.{sheet_orders}
use Rattle.sheet.specs.declared.BrokerOrderStatus.{BrokerOrderStatus}
use Rattle.compare.specs.declared.discrepancy.Discrepancy.TheVariants.{MissingOrder}
use Rattle.compare.proofs.passes.missing.Goals as goal
use Rattle.std.specs.Prelude.{Some}

symbol_of_lem : (s : List ℕ) → field_symbol s ≡ (order_of s).symbol
unfolding order_of
symbol_of_lem s = refl

pub returns : goal.returns
returns c =
    let searched : c.lists.result
    ≡ any_where (λ (x : BrokerOrderStatus). eqb (sign_extended (order_of (drop c.args.at c.args.orders.now)).id) x.id.0) (sheet_orders c.args.broker.sheet.now) = let r = c.id_at-id in
    let bs = sheet_orders c.args.broker.sheet.now in
    c.lists.ensures
    ∙ ap (λ (k : ℕ). any_where (λ (x : BrokerOrderStatus). eqb k x.id.0) bs)
    (c.sign_extended.ensures ∙ ap sign_extended (to_z-of_z w32 r.result (record { sfits = r.type_inv }) ∙ r.ensures)) in
    let u = c.unfilled_at in
    rw (← u.ensures, c.if-not-unfilled_at.false, sym searched ∙ c.if-lists.false)
    (ap (λ (y : Symbol). Some (MissingOrder y)) (c.of_field.ensures ∙ ap field_symbol c.rest.ensures ∙ symbol_of_lem _))

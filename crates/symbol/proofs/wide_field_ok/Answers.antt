-- `symbol::wide_field_ok`: the field of nine bytes, then the zeros after it.
use Rattle.std.proofs.Common.{sym, ◌∙◌}
use Rattle.symbol.specs.Symbol.{wide_field_ok}
use Rattle.symbol.proofs.Text.{bytes_of_lem}
use Rattle.symbol.proofs.Field.{wide_zero}
use Rattle.symbol.proofs.wide_field_ok.Goals as goal

pub returns-then-field_ok : goal.returns-then-field_ok
unfolding wide_field_ok
returns-then-field_ok c =
    let s = c.args.s.now in
    rw (sym c.field_ok.ensures ∙ c.if-field_ok.true, c.u64_at.ensures) (wide_zero s (bytes_of_lem s c.type_inv.s))

pub returns-else-field_ok : goal.returns-else-field_ok
unfolding wide_field_ok
returns-else-field_ok c = rw (sym c.field_ok.ensures ∙ c.if-field_ok.false) c.if-field_ok.false

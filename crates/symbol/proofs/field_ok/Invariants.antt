-- `symbol::field_ok`: what is left of the number decides.
use mathlib.Core.Path.{◌≡◌}
use Prim.Native.Nat.{◌-◌}
use Rattle.symbol.specs.Symbol.{symbol_byte, field_ok}
use Rattle.symbol.proofs.Field.{word_ok}
use Rattle.symbol.proofs.field_ok.Given as goal

abbrev pub invariant-loop : goal.invariant-loop
invariant-loop l = field_ok l.s ≡ word_ok symbol_byte (l.len - l.counter) l.rest

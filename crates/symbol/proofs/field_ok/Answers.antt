-- `symbol::field_ok`: what is left of the number decides.
use native.Mathlib.Omega.{arith}
use Rattle.std.proofs.Common.{sym, ◌∙◌, ◌+◌, ◌-◌, ◌≡◌}
use Rattle.symbol.specs.Symbol.{symbol_byte}
use Rattle.symbol.proofs.Text.{bytes_of_lem}
use Rattle.symbol.proofs.Field.{word_fails, word_goes, word_none, field_short, field_long, field_word}
use Rattle.symbol.proofs.field_ok.Goals.{then-len-eq0-via-then-len-eq0, then-len-eq0-via-else-len-eq0+then-len-gt8}
use Rattle.symbol.proofs.field_ok.Goals as goal

pub returns-then-len-eq0 : goal.returns-then-len-eq0
returns-then-len-eq0 c =
    let s = c.args.s.now in
    let e = c.u8_at-len.ensures in
    sym (elim c.then-len-eq0.branch [
      | then-len-eq0-via-then-len-eq0 w ↦ field_short s (omega (arith, e, w.if-len-eq0.true))
      | then-len-eq0-via-else-len-eq0+then-len-gt8 w ↦ field_long s (omega (arith, e, w.if-len-gt8.true))
    ])

pub loop-init : goal.loop-init
loop-init c =
    let s = c.args.s.now in
    let e = c.u8_at-len.ensures in
    let z : c.u8_at-len.result - 0 ≡ c.u8_at-len.result = omega arith in
    rw (z, c.u64_of-rest.ensures, e) (field_word s (bytes_of_lem s c.type_inv.s) (omega arith) (omega arith))

pub returns-then-not-symbol_byte : goal.returns-then-not-symbol_byte
returns-then-not-symbol_byte c =
    let l = c.loop in
    let r = c.symbol_byte in
    sym (l.invariant ∙ word_fails symbol_byte _ l.rest (omega (arith, c.loop-test.true)) (sym r.ensures ∙ c.if-not-symbol_byte.true))

pub loop-preserved : goal.loop-preserved
loop-preserved c =
    let l = c.loop in
    let r = c.symbol_byte in
    let e : c.u8_at-len.result - l.counter - 1 ≡ c.u8_at-len.result - (l.counter + 1) = omega arith in
    l.invariant ∙ word_goes symbol_byte _ l.rest (omega (arith, c.loop-test.true)) (sym r.ensures ∙ c.if-not-symbol_byte.false) ∙ rw e

pub returns : goal.returns
returns c =
    let l = c.loop in
    sym (l.invariant ∙ word_none symbol_byte _ l.rest (omega (arith, c.loop-test.false)))

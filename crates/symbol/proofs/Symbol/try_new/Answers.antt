-- `Symbol::try_new`: the bytes that were seen may stand in a symbol, and the word is their number.
use native.Mathlib.Omega.{arith}
use lib.Dec.{leb}
use borrow.Author.Tests.{le-leb, lt-leb}
use Rattle.std.proofs.Common.{rules, sym, ◌∙◌, ◌≡◌, ◌≤◌, ◌&&◌, length}
use Rattle.symbol.specs.Symbol.{parses, parsed}
use Rattle.wire.proofs.Bools.{and_false}
use Rattle.symbol.proofs.Text.{bytes_of_lem, parsing_starts, parsing_fails, parsing_small, parsing_goes, parsing_ends}
use Rattle.symbol.proofs.Symbol.try_new.Goals.{then-is_empty-via-then-is_empty, then-is_empty-via-else-is_empty+then-text-gt8}
use Rattle.symbol.proofs.Symbol.try_new.Goals as goal

pub returns-then-is_empty : goal.returns-then-is_empty
unfolding parses parsed
returns-then-is_empty c =
    let n = length c.args.text.now in
    elim c.then-is_empty.branch [
      | then-is_empty-via-then-is_empty w ↦ let z : n ≡ 0 = grind arith in rw z
      | then-is_empty-via-else-is_empty+then-text-gt8 w ↦ rw (lt-leb n 8 w.if-text-gt8.true, and_false (leb 1 n))
    ]

pub loop-b-init : goal.loop-b-init
loop-b-init c =
    let same : c.into_iter-b-iterator.result.iter.rest.now ≡ c.args.text.now = search rules in
    rw same (parsing_starts c.args.text.now)

pub returns-then-not-symbol_byte : goal.returns-then-not-symbol_byte
unfolding parses parsed
returns-then-not-symbol_byte c =
    let t = c.args.text.now in
    let n = length t in
    let steps = c.in-Some.ensures.steps in
    let fails = parsing_fails t _ _ _ _ steps c.loop-b.invariant (sym c.symbol_byte.ensures ∙ c.if-not-symbol_byte.true) in
    rw (fails, and_false (leb 1 n && leb n 8))

pub overflow_mul-word : goal.overflow_mul-word
overflow_mul-word c =
    let t = c.args.text.now in
    let small = parsing_small t _ _ _ _ c.in-Some.ensures.steps c.loop-b.invariant (bytes_of_lem t c.type_inv.text) (omega arith) in
    omega (arith, small)

pub overflow_add-word : goal.overflow_add-word
overflow_add-word c =
    let t = c.args.text.now in
    let small = parsing_small t _ _ _ _ c.in-Some.ensures.steps c.loop-b.invariant (bytes_of_lem t c.type_inv.text) (omega arith) in
    omega (arith, small)

pub loop-b-preserved : goal.loop-b-preserved
loop-b-preserved c =
    let t = c.args.text.now in
    let e : c.from.result ≡ c.in-Some.field-0.now = search rules in
    rw e (parsing_goes t _ _ _ _ c.in-Some.ensures.steps c.loop-b.invariant (sym c.symbol_byte.ensures ∙ c.if-not-symbol_byte.false) (omega arith))

pub returns : goal.returns
unfolding parses parsed
returns c =
    let t = c.args.text.now in
    let n = length t in
    let ends = parsing_ends t _ _ c.in-None.ensures.steps.0 c.loop-b.invariant in
    let some : 1 ≤ n = grind (arith, c.is_empty.ensures, c.if-is_empty.false) in
    rw (ends.1, le-leb 1 n some, le-leb n 8 c.if-text-gt8.false, ends.0)

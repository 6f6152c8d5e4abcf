-- `passes::intent`: by the flags, of which one says that there is a client.
use mathlib.Core.Path.{refl, sym, ◌∙◌}
use lib.ListN.{drop}
use lib.Seq.{drop-drop}
use Rattle.wire.specs.Le.{le}
use Rattle.records.specs.Record.{ref_of, has_flag, order_of}
use Rattle.compare.proofs.Lookups.{an_intent}
use Rattle.compare.proofs.passes.intent.Goals as goal

pub returns : goal.returns
unfolding order_of
returns c =
    let t = c.intent_at in
    let a = c.args in
    let s = drop a.at a.orders.now in
    let h = sym t.ensures ∙ c.if-not-intent_at.false in
    rw (
      c.of_field-symbol.ensures,
      c.whole_u32_at.ensures,
      c.whole_u32_at-2.ensures,
      c.rest-p.ensures,
      ← drop-drop 4 40 s,
    )
    (an_intent (order_of s) (has_flag 8 (le 1 (drop 9 s))) (ref_of (drop 40 s)) refl h)

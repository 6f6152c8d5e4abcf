-- `words::last_values`: what the rows from i on say is to be noted.
use mathlib.Core.Path.{◌∙◌}
use lib.ListN.{length}
use Rattle.records.proofs.Walk.{rest_none}
use Rattle.drift.specs.Rows.{row_of}
use Rattle.drift.specs.Code.{last_bits}
use Rattle.drift.proofs.Looked.{noted_step}
use Rattle.drift.proofs.words.last_values.Goals as goal

pub loop-i-preserved : goal.loop-i-preserved
loop-i-preserved c =
    let l = c.loop-i in
    let r = c.args.rows in
    let ks = c.args.keys.now in
    λ k h. noted_step r.width r.count r.bytes.now l.i c.loop-i-test.true ks (length ks) c.key.result c.bits.result l.values _ c.key.ensures c.bits.ensures c.note.ensures k h ∙ l.invariant k h

pub returns : goal.returns
unfolding last_bits
returns c =
    let l = c.loop-i in
    let r = c.args.rows in
    record { each = λ k h. rw (rest_none row_of r.width r.count r.bytes.now l.i c.loop-i-test.false) at (l.invariant k h) }

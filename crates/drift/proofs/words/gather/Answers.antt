-- `words::gather`: the symbols of the rows from i on are to be put in place.
use mathlib.Core.Path.{sym, subst, ◌∙◌}
use native.Mathlib.Omega.{arith}
use lib.ListN.{take}
use Rattle.wire.proofs.Records.{length_records}
use Rattle.records.proofs.Walk.{rest_none}
use Rattle.drift.specs.Rows.{row_of}
use Rattle.drift.specs.Symbols.{sorted_with}
use Rattle.drift.specs.Code.{Rising}
use Rattle.drift.proofs.Ordered.{rising_inserted}
use Rattle.drift.proofs.Looked.{gathered_step}
use Rattle.drift.proofs.words.gather.Goals as goal

pub loop-i-preserved : goal.loop-i-preserved
loop-i-preserved c =
    let x = c.key in
    let l = c.loop-i in
    let r = c.args.rows in
    let put = c.insert-taken.ensures in (
      omega (arith, put.one_more),
      subst Rising (sym put.in_place) (rising_inserted x.result (take l.taken l.keys) l.invariant.1),
      gathered_step r.width r.count r.bytes.now l.i c.loop-i-test.true x.result (take l.taken l.keys) _ x.ensures put.in_place ∙ l.invariant.2,
    )

pub returns : goal.returns
unfolding sorted_with
returns c =
    let r = c.args.rows in
    let l = c.loop-i in
    let s = r.bytes.now in
    record {
      most = rw (length_records row_of r.width r.count s) (omega arith);
      sorted = rw (rest_none row_of r.width r.count s l.i c.loop-i-test.false) at l.invariant.2;
      rising = l.invariant.1;
    }

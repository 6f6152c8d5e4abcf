-- `report::Table::put_entries`: what is left of the lines decides, is summed on, and is written after what is.
use Prim.Native.Nat.{ℕ, ◌+◌, ◌*◌, ◌≤◌}
use mathlib.Core.Path.{◌≡◌, sym, ap, ◌∙◌}
use mathlib.Core.List.{List, map}
use native.Mathlib.Omega.{arith}
use lib.Ieee.{binary64, add, mul}
use lib.ListN.{length, get_or}
use lib.Seq.{sets}
use mir.Syntax.{w64}
use mir.Val.{to_z, of_z}
use mir.ValLaws.{to_z-of_z}
use Rattle.wire.specs.Table.{encoded}
use Rattle.drift.specs.Entry.{entry_bytes, line_entry, line_fits, line_bytes}
use Rattle.drift.specs.Report.{squares}
use Rattle.drift.specs.Code.{made_of, key, symbol_at, line_at, lines_at}
use Rattle.drift.specs.declared.entry.ReconcileEntry.{ReconcileEntry}
use Rattle.std.proofs.lemmas.Result.{err_from_is_err_and}
use Rattle.drift.proofs.Answers.{value_if, value_ok, value_err}
use Rattle.drift.proofs.Runs.{left, all_next, all_stop, all_end, squares_next, squares_end, bytes_next, bytes_end, bytes_whole, out_of_range, no_room, done}
use Rattle.drift.proofs.table.Table.put_entries.Given.{Over}
use Rattle.drift.proofs.table.Table.put_entries.Goals.{After-entry_of}
use Rattle.drift.proofs.table.Table.put_entries.Goals as goal

-- what the entry of the line at k is; the equity is read back from its bits
made : (g : Over) (c : After-entry_of g)
    → let e = to_z w64 (of_z w64 c.args.equity) in let l = line_at c.args.self.now.keys c.args.self.now.quantities c.args.self.now.weights c.args.self.now.costs c.loop-k.k in
    c.entry_of.result ≡ value_if (line_fits e l) (line_entry e l)
unfolding made_of
made g c =
    rw (
      to_z-of_z w64 c.cast_signed-quantity.result (record { sfits = c.cast_signed-quantity.type_inv }),
      c.cast_signed-quantity.ensures,
      to_z-of_z w64 c.cast_signed.result (record { sfits = c.cast_signed.type_inv }),
      c.cast_signed.ensures,
      c.from_bits-weight.ensures,
    ) at c.entry_of.ensures

pub returns-in_err-e : goal.returns-in_err-e
returns-in_err-e g c =
    let a = c.args in
    let s = a.self.now in
    let l = c.loop-k in
    let e = to_z w64 (of_z w64 a.equity) in
    let f = line_at s.keys s.quantities s.weights s.costs in
    let p = err_from_is_err_and c.from_residual.result c.from_residual.ensures.1 in
    let r = value_err _ _ c.in_err-e.field-0.0 (sym (made g (goal.at.returns-in_err-e g c).After-entry_of) ∙ c.in_err-e.was) in
    rw (p.1, p.2, r.1)
    (record {
      answer = rw (to_z-of_z w64 a.equity c.ranges.equity) at (out_of_range f a.n e (length a.entries.now) (l.invariant.0 ∙ all_stop f a.n (line_fits e) l.k c.loop-k-test.true r.0));
      written = tt;
    })

pub loop-k-preserved : goal.loop-k-preserved
loop-k-preserved g c =
    let a = c.args in
    let s = a.self.now in
    let l = c.loop-k in
    let e = to_z w64 (of_z w64 a.equity) in
    let f = line_at s.keys s.quantities s.weights s.costs in
    let r = value_ok _ _ c.in_ok-e.e (sym (made g (goal.at.loop-k-preserved g c).After-entry_of) ∙ c.in_ok-e.was) in
    let h = c.loop-k-test.true in
    let after = left f a.n (l.k + 1) in (
      l.invariant.0 ∙ all_next f a.n (line_fits e) l.k h r.0,
      ap (λ (y : ReconcileEntry). squares (add binary64 l.sum (mul binary64 y.diff_weight y.diff_weight)) (map (line_entry e) after)) r.1 ∙ sym (squares_next f a.n e l.sum l.k h) ∙ l.invariant.1,
      ap (λ (d : List ℕ). sets d (64 * (l.k + 1)) (encoded (line_bytes e) after))
          (c.put_entry.ensures ∙ ap (λ (y : ReconcileEntry). sets l.entries (64 * l.k) (entry_bytes (symbol_at (key (get_or s.keys l.k 0))) y)) r.1)
          ∙ sym (bytes_next f a.n e l.entries l.k h) ∙ l.invariant.2,
    )

pub returns-then-entries-n : goal.returns-then-entries-n
returns-then-entries-n g c =
    let a = c.args in
    let s = a.self.now in
    let l = c.loop-k in
    let e = to_z w64 (of_z w64 a.equity) in
    let f = line_at s.keys s.quantities s.weights s.costs in
    record {
      answer = rw (to_z-of_z w64 a.equity c.ranges.equity) at (no_room f a.n e (length a.entries.now) (l.invariant.0 ∙ all_end f a.n (line_fits e) l.k c.loop-k-test.false) (omega (arith, c.if-entries-n.true, l.auto.entries)));
      written = tt;
    }

pub returns : goal.returns
returns g c =
    let a = c.args in
    let s = a.self.now in
    let l = c.loop-k in
    let e = to_z w64 (of_z w64 a.equity) in
    let f = line_at s.keys s.quantities s.weights s.costs in
    let room = length a.entries.now in
    let h = c.loop-k-test.false in
    let fit : 64 * a.n ≤ room = omega (arith, c.if-entries-n.false, l.auto.entries) in
    let sum = sym (squares_end f a.n e l.sum l.k h) ∙ l.invariant.1 in
    let all = lines_at s.keys s.quantities s.weights s.costs a.n in
    rw (c.tracking_error.ensures)
    (record {
      answer = rw (to_z-of_z w64 a.equity c.ranges.equity) at (done f a.n e room l.sum (l.invariant.0 ∙ all_end f a.n (line_fits e) l.k h) fit sum);
      written = rw (to_z-of_z w64 a.equity c.ranges.equity) at (
          sym (bytes_end f a.n e l.entries l.k h) ∙ l.invariant.2 ∙ ap (λ (d : List ℕ). sets d 0 (encoded (line_bytes e) all)) c.requires.zero ∙ bytes_whole f a.n e room fit
          );
    })

-- `rows::Rows::bits`: the row is there.
use Prim.Native.Nat.{◌*◌}
use mathlib.Core.Path.{sym, ap, ◌∙◌}
use lib.Seq.{drop-drop}
use Rattle.wire.specs.Le.{le}
use Rattle.drift.proofs.rows.Rows.bits.Goals as goal

pub returns : goal.returns
returns c =
    let a = c.args in
    c.whole_u64_at.ensures ∙ ap (le 8) (sym (drop-drop 16 (a.self.width * a.i) a.self.bytes.now))

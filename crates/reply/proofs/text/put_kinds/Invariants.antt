-- `reply::text::put_kinds`: the lines still to be written, put after those that are, are the whole.
use Prim.Native.Nat.{◌+◌, ◌*◌, ◌≤◌}
use mathlib.Core.Path.{◌≡◌}
use lib.ListN.{length}
use lib.Seq.{sets}
use Rattle.wire.specs.Le.{le}
use Rattle.wire.specs.Table.{records, encoded}
use Rattle.reply.specs.Text.{kind_line}
use Rattle.reply.proofs.KindLines.{kinds_from}
use Rattle.reply.proofs.text.put_kinds.Given as goal

abbrev pub invariant-loop-i : goal.invariant-loop-i
invariant-loop-i l = (length l.d ≡ length l.initial.d) × (l.n ≤ 21 * l.i) × (length (encoded kind_line (records (le 4) 48 l.count l.report)) ≡ l.n + length (kinds_from l.count l.report l.i)) × (sets l.initial.d l.at (encoded kind_line (records (le 4) 48 l.count l.report)) ≡ sets l.d (l.at + l.n) (kinds_from l.count l.report l.i))

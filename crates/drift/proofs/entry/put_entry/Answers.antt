-- `entry::put_entry`: the two halves, one after the other; nothing past the end.
use borrow.Author.Rules.{rules}
use mathlib.Core.Path.{sym, ◌∙◌}
use mir.Syntax.{w64}
use mir.ValLaws.{to_z-of_z}
use Rattle.wire.proofs.Written.{sets_past}
use Rattle.drift.specs.Entry.{entry_bytes}
use Rattle.drift.specs.Code.{key, symbol_at}
use Rattle.drift.proofs.Bytes64.{two_halves}
use Rattle.drift.proofs.entry.put_entry.Goals as goal

pub returns-then-d-at : goal.returns-then-d-at
returns-then-d-at c =
    let a = c.args in
    sym (sets_past a.d.now a.at (entry_bytes (symbol_at (key a.x)) a.e) c.if-d-at.true)

pub returns : goal.returns
returns c =
    let a = c.args in
    c.put_four-2.ensures
    ∙ rw (
      c.put_four.ensures,
      c.len_of.ensures,
      c.key_of-word.ensures,
      c.to_bits.ensures,
      c.to_bits-2.ensures,
      c.to_bits-3.ensures,
      c.cast_unsigned-target.ensures,
      c.cast_unsigned-actual.ensures,
      c.cast_unsigned-diff.ensures,
      to_z-of_z w64 a.e.target_shares (search rules),
      to_z-of_z w64 a.e.actual_shares (search rules),
      to_z-of_z w64 a.e.diff_shares (search rules),
    ) (two_halves a.d.now a.at (symbol_at (key a.x)) a.e)

-- `words::note`: the place of x is that of no other.
use native.Mathlib.Nat.{le_refl}
use mathlib.Core.Path.{sym, ◌∙◌}
use lib.ListN.{length}
use Rattle.drift.proofs.Halves.{all_rising}
use Rattle.drift.proofs.Inserted.{note_found, note_absent}
use Rattle.drift.proofs.words.note.Goals as goal

pub returns-then-has : goal.returns-then-has
returns-then-has c =
    let a = c.args in
    let ks = a.keys.now in
    record { each = note_found ks (length ks) a.x c.place-p.result (le_refl (length ks)) c.place-p.ensures (all_rising ks c.requires.rising) a.bits a.values.now c.requires.room (sym c.has.ensures ∙ c.if-has.true) }

pub returns-else-has : goal.returns-else-has
returns-else-has c =
    let a = c.args in
    let ks = a.keys.now in
    record { each = note_absent ks (length ks) a.x c.place-p.result (le_refl (length ks)) c.place-p.ensures (all_rising ks c.requires.rising) a.bits a.values.now (sym c.has.ensures ∙ c.if-has.false) }

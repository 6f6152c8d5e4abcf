-- `discrepancy::note`: by the room.
use Rattle.compare.proofs.Adding.{adds_one}
use Rattle.compare.proofs.discrepancy.note.Goals as goal

pub returns : goal.returns
returns c =
    let a = c.args in
    rw (c.in-Some.is, c.put_discrepancy.ensures) (adds_one a.n a.d.now c.in-Some.y c.if-d-n.false)

-- `reply::put_by`: what buffers suffice for is what those of 65,536 bytes give.
use Rattle.reply.proofs.Parts.{count_few, told_longer}
use Rattle.reply.proofs.put_by.Goals as goal

pub put_told-requires : goal.put_told-requires
put_told-requires g c =
    let a = c.args in
    count_few a.book.bytes.now a.sheet.bytes.now g.row.N c.requires _ _ _ _ c.in_ok-x.ensures

pub returns : goal.returns
returns g c =
    let a = c.args in
    rw (told_longer a.book.bytes.now a.sheet.bytes.now g.row.N c.requires _ _ _ _ c.in_ok-x.ensures) c.put_told.ensures

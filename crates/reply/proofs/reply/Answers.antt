-- `reply::reply`: the text in a cleared buffer, or no room for it.
use Prim.Native.Nat.{ℕ}
use mathlib.Core.Path.{◌≡◌, ap, ◌∙◌}
use mathlib.Core.List.{List}
use lib.Seq.{sets}
use lib.ListN.{length}
use Rattle.reply.specs.Reply.{reply_text}
use Rattle.reply.proofs.Room.{fits}
use Rattle.reply.proofs.reply.Goals as goal

pub returns : goal.returns
returns c =
    let a = c.args in
    let p = c.put_reply-n in
    let t = reply_text a.book.now a.sheet.now in
    let k : length p.new.d ≡ length a.out.now = p.auto.d ∙ c.clear.auto.d in
    fits t p.new.d p.result (length a.out.now) p.ensures.0
    (p.ensures.1 ∙ ap (λ (d : List ℕ). sets d 0 t) c.clear.ensures)
    (rw k at c.if-out-n.false)

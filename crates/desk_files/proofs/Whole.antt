-- A reply in a buffer of 65,536 bytes is never without room: it is the whole text, and zeros after it. About no function.
-- Assumes nothing.
use Prim.Native.Nat.{ℕ}
use mathlib.Core.Path.{◌≡◌, ap, ◌∙◌}
use mathlib.Core.List.{List}
use native.Mathlib.Omega.{arith}
use borrow.Author.Tests.{le-leb}
use lib.ListN.{length}
use Rattle.wire.specs.Table.{padded}
use Rattle.reply.specs.Reply.{reply_text, replied, reply_out}
use Rattle.reply.proofs.Fits.{reply_within, always_done}
use Rattle.std.specs.Prelude.{Ok, Result}
use Rattle.wire.specs.declared.refusal.Refusal.{Refusal}

pub whole : (book sheet out : List ℕ) (room : ℕ) (x : (Result ℕ Refusal)) → room ≡ 65536
    → (x ≡ replied (reply_text book sheet) room) × (out ≡ reply_out (reply_text book sheet) room)
    → (x ≡ Ok (length (reply_text book sheet))) × (out ≡ padded 65536 (reply_text book sheet))
whole book sheet out room x e h =
    let t = reply_text book sheet in (
      h.0 ∙ ap (replied t) e ∙ always_done book sheet,
      h.1 ∙ ap (reply_out t) e ∙ rw (le-leb (length t) 65536 (omega (arith, reply_within book sheet))),
    )

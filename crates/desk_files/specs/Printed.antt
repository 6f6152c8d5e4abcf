-- What the desk prints, by the bytes that its two buffers hold and how many of them were read.
-- Assumes nothing.
use Rattle.std.specs.Prelude.{ℕ, List, take}
use Rattle.reply.specs.Reply.{reply_text}

-- the reply to the first n bytes of the one and the first m of the other; a count above a buffer's length is that length
abbrev pub printed : List ℕ → ℕ → List ℕ → ℕ → List ℕ
printed book n sheet m = reply_text (take n book) (take m sheet)

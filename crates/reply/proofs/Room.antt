-- A text written at the start of a buffer: another after it, a cleared buffer, and one that it does not fit. About no function.
-- Assumes nothing.
use Prim.Native.Nat.{ℕ, ◌+◌, ◌≤◌, ◌<◌}
use mathlib.Core.Path.{◌≡◌, sym, ap, ◌∙◌}
use mathlib.Core.List.{List, [], ◌++◌}
use native.Mathlib.Nat.{zero-add}
use native.Mathlib.Omega.{arith}
use borrow.Author.Tests.{le-leb, lt-leb}
use lib.ListN.{length, replicate}
use lib.Seq.{sets}
use Rattle.wire.proofs.Records.{padded_none, padded_behind}
use Rattle.lines.proofs.Behind.{Wrote, wrote_behind}
use Rattle.reply.specs.Reply.{replied, reply_out}
use Rattle.std.specs.Prelude.{Ok, Err}
use Rattle.wire.specs.declared.refusal.Refusal.TheVariants as Refusal

pub wrote_next : (d t e : List ℕ) (n : ℕ) (u f : List ℕ) (m : ℕ) → Wrote d 0 t e n → Wrote e n u f m → Wrote d 0 (t ++ u) f (n + m)
wrote_next d t e n u f m p q = wrote_behind d 0 t e n u f m p (rw (zero-add n) q)

pub fits : (t d : List ℕ) (n room : ℕ) → n ≡ length t → d ≡ sets (replicate room 0) 0 t → n ≤ room → (Ok n ≡ replied t room) × (d ≡ reply_out t room)
fits t d n room e w h =
    let k : length t ≤ room = rw e at h in (
      rw (le-leb (length t) room k, e),
      w ∙ rw (le-leb (length t) room k) (ap (λ (x : List ℕ). sets x 0 t) (sym (padded_none room)) ∙ padded_behind room [] t (omega arith)),
    )

pub lacks : (t : List ℕ) (n room : ℕ) → n ≡ length t → room < n → ((Err Refusal.NoRoom) ≡ replied t room) × (replicate room 0 ≡ reply_out t room)
lacks t n room e h =
    let k : room < length t = rw e at h in
    (rw (lt-leb (length t) room k), rw (lt-leb (length t) room k))

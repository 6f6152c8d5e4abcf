-- `wire::put_u32`: the library's bytes, written over four; else `put`.
use native.Mathlib.Omega.{arith}
use Rattle.std.proofs.Common.{◌∙◌, ◌+◌, ◌-◌}
use Rattle.wire.specs.Le.{bytes_of}
use Rattle.wire.proofs.Written.{put_mid_is, le_bytes_4, length_bytes_of}
use Rattle.wire.proofs.put_u32.Goals as goal

pub returns-then-at-d : goal.returns-then-at-d
returns-then-at-d c =
    let a = c.args in
    let bytes = c.copy_from_slice.ensures.after ∙ c.to_le_bytes.ensures ∙ le_bytes_4 a.x in
    put_mid_is a.d.now c.copy_from_slice.new.self (bytes_of 4 a.x) a.at (a.at + 4 - a.at) bytes (omega arith) (length_bytes_of 4 a.x ∙ omega arith)

-- `wire::put_whole_u64`: the library's bytes, written over eight.
use Rattle.std.proofs.Common.{◌∙◌, ◌+◌, ◌-◌}
use native.Mathlib.Omega.{arith}
use Rattle.wire.specs.Le.{bytes_of}
use Rattle.wire.proofs.Written.{put_mid_is, le_bytes_8, length_bytes_of}
use Rattle.wire.proofs.put_whole_u64.Goals as goal

pub returns : goal.returns
returns c =
    let a = c.args in
    let bytes = c.copy_from_slice.ensures.after ∙ c.to_le_bytes.ensures ∙ le_bytes_8 a.x in
    put_mid_is a.d.now c.copy_from_slice.new.self (bytes_of 8 a.x) a.at (a.at + 8 - a.at) bytes (omega arith) (length_bytes_of 8 a.x ∙ omega arith)

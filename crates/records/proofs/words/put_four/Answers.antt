-- `words::put_four`: as the call ensures where all the bytes are there; else the four writes, one after the other; nothing past the end.
use mathlib.Core.Path.{sym, ◌∙◌}
use mathlib.Core.List.{◌++◌}
use Rattle.wire.specs.Le.{bytes_of}
use Rattle.wire.proofs.Written.{sets_past}
use Rattle.records.proofs.WrittenWords.{four_words}
use Rattle.records.proofs.words.put_four.Goals as goal

pub returns-then-at-d-2 : goal.returns-then-at-d-2
returns-then-at-d-2 c =
    let a = c.args in
    c.put_u64-then-at-d-2-3.ensures
    ∙ rw (c.put_u64-then-at-d-2-2.ensures, c.put_u64-then-at-d-2.ensures, c.put_u64.ensures) (four_words a.d.now a.at a.w0 a.w1 a.w2 a.w3)

pub returns-else-at-d-2 : goal.returns-else-at-d-2
returns-else-at-d-2 c =
    let a = c.args in
    sym (sets_past a.d.now a.at (bytes_of 8 a.w0 ++ bytes_of 8 a.w1 ++ bytes_of 8 a.w2 ++ bytes_of 8 a.w3) c.if-at-d-2.false)

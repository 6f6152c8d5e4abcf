-- `words::put_whole_four`: the four writes, one after the other.
use mathlib.Core.Path.{◌∙◌}
use Rattle.records.proofs.WrittenWords.{four_words}
use Rattle.records.proofs.words.put_whole_four.Goals as goal

pub returns : goal.returns
returns c =
    let a = c.args in
    c.put_whole_u64-4.ensures
    ∙ rw (c.put_whole_u64-3.ensures, c.put_whole_u64-2.ensures, c.put_whole_u64.ensures) (four_words a.d.now a.at a.w0 a.w1 a.w2 a.w3)

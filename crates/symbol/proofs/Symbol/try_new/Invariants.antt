-- `Symbol::try_new`: the bytes that were seen may stand in a symbol, and the word is their number.
use Rattle.symbol.proofs.Text.{Parsing}
use Rattle.symbol.proofs.Symbol.try_new.Given as goal

abbrev pub invariant-loop-b : goal.invariant-loop-b
invariant-loop-b l = Parsing l.text l.b-iterator.iter.rest.now l.word

-- Reconciling's answer, written number by number. About no function. Assumes nothing.
use Prim.Native.Nat.{ℕ}
use mathlib.Core.Path.{◌≡◌}
use mathlib.Core.List.{List}
use lib.Seq.{sets}
use Rattle.wire.specs.Le.{bytes_of}
use Rattle.intents.specs.declared.Reconciled.{Reconciled}
use Rattle.answers.proofs.Words.{three_words}
use Rattle.marks_answers.specs.IntentsAnswer.{reconciled_bytes}

pub reconciled_written : (d : List ℕ) (r : Reconciled)
    → sets (sets (sets d 0 (bytes_of 8 r.entries)) 8 (bytes_of 8 r.unreached)) 16 (bytes_of 8 r.length) ≡ sets d 0 (reconciled_bytes r)
unfolding reconciled_bytes
reconciled_written d r = three_words d 0 r.entries r.unreached r.length

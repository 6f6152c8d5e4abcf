-- `words::key_of`: what `swap_bytes` gives, with its divisions in one.
use native.Mathlib.Nat.{div-div-eq-div-mul}
use native.Mathlib.Omega.{arith}
use mathlib.Core.Path.{◌∙◌}
use Rattle.drift.specs.Code.{swapped}
use Rattle.drift.proofs.words.key_of.Goals as goal

pub returns : goal.returns
unfolding swapped
returns c = c.swap_bytes.ensures ∙ simp div-div-eq-div-mul (omega arith)

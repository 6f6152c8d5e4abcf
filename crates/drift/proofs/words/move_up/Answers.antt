-- `words::move_up`: the elements from j on stand one place up.
use Prim.Native.Nat.{ℕ, ◌-◌}
use mathlib.Core.Path.{ap, ◌∙◌}
use mathlib.Core.List.{List}
use native.Mathlib.Omega.{arith}
use lib.ListN.{length, get_or, set}
use Rattle.drift.proofs.Opened.{open_first, open_step, open_last}
use Rattle.drift.proofs.words.move_up.Goals as goal

pub loop-j-init : goal.loop-j-init
loop-j-init c = open_first c.args.keys.now (length c.args.keys.now - 1) (omega arith)

pub loop-j-preserved : goal.loop-j-preserved
loop-j-preserved c =
    let l = c.loop-j in
    let d = c.args.keys.now in
    ap (λ (t : List ℕ). set t (l.j - 1) (get_or t (l.j - 1 - 1) 0)) l.invariant ∙ open_step d (length d - 1) (l.j - 1) (omega arith) (omega arith) (omega arith)

pub returns : goal.returns
returns c = c.loop-j.invariant ∙ open_last c.args.keys.now (c.loop-j.j - 1) c.requires (omega arith)

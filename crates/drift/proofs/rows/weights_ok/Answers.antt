-- `rows::weights_ok`: what the chain answers of the weights.
use Prim.Native.Nat.{◌*◌}
use Rattle.std.proofs.Common.{rules, List, ℕ, ◌∙◌}
use lib.Ieee.{binary64, of_bits}
use lib.ListN.{drop}
use lib.Seq.{drop-drop}
use Rattle.wire.specs.Le.{le}
use Rattle.wire.proofs.Chains.{every_from_all}
use Rattle.drift.specs.Entry.{weight_ok}
use Rattle.drift.proofs.Targets.{weights_every}
use Rattle.drift.proofs.rows.weights_ok.Goals as goal

pub returns : goal.returns
returns c =
    let a = c.args in
    let d = a.targets.now in
    every_from_all (λ (s : List ℕ). weight_ok (of_bits binary64 (le 8 (drop 16 s)))) 24 d c.all.ensures.ran
    (λ i b q k. rw (drop-drop 16 (24 * i) d) (search rules))
    ∙ weights_every weight_ok a.count d

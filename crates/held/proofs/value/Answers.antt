-- `held::value`: the table has room for what is held.
use mathlib.Core.Path.{ap}
use mathlib.Core.List.{List}
use Prim.Native.Nat.{ℕ}
use lib.ListN.{length}
use native.Mathlib.Omega.{arith}
use Rattle.symbol.proofs.Text.{bytes_of_lem}
use Rattle.drift.proofs.Looked.{sound_rows}
use Rattle.drift.proofs.Lines.{blank}
use Rattle.held.proofs.value.Goals as goal

pub value_in-requires : goal.value_in-requires
value_in-requires c =
    let l = c.args.lists in
    let t = c.new.ensures in
    let none = ap (λ (s : List ℕ). length s) c.requires in
    (omega arith, blank 32 l.positions.now l.targets.now (omega (arith, none, c.if-lists-le32.true)) t.no_key t.no_quantity t.no_weight t.no_cost)

pub value_in-requires-else-lists-le32 : goal.value_in-requires-else-lists-le32
value_in-requires-else-lists-le32 c =
    let l = c.args.lists in
    let p = l.positions.now in
    let t = c.new-else-lists-le32.ensures in
    let none = ap (λ (s : List ℕ). length s) c.requires in
    let h = (sound_rows 32 p (bytes_of_lem p (λ i. record { fits = l.bytes.held i })) l.sound.held).0 in
    (omega arith, blank 1024 p l.targets.now (omega (arith, none, h)) t.no_key t.no_quantity t.no_weight t.no_cost)

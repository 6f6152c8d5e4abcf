-- `report::report`: the arrays have room for what is held and what is targeted.
use native.Mathlib.Omega.{arith}
use Rattle.symbol.proofs.Text.{bytes_of_lem}
use Rattle.drift.proofs.Looked.{sound_rows}
use Rattle.drift.proofs.Lines.{blank}
use Rattle.drift.proofs.report.report.Goals as goal

pub report-requires : goal.report-requires
report-requires c =
    let l = c.args.lists in
    let t = c.new.ensures in
    (omega arith, (blank 32 l.positions.now l.targets.now c.if-lists-le32.true t.no_key t.no_quantity t.no_weight t.no_cost, c.requires))

pub report-requires-else-lists-le32 : goal.report-requires-else-lists-le32
report-requires-else-lists-le32 c =
    let l = c.args.lists in
    let p = l.positions.now in
    let w = l.targets.now in
    let t = c.new-else-lists-le32.ensures in
    let h = (sound_rows 32 p (bytes_of_lem p (λ i. record { fits = l.bytes.held i })) l.sound.held).0 in
    let k = (sound_rows 24 w (bytes_of_lem w (λ i. record { fits = l.bytes.wanted i })) l.sound.wanted).0 in
    (omega arith, (blank 2048 p w (omega arith) t.no_key t.no_quantity t.no_weight t.no_cost, c.requires))

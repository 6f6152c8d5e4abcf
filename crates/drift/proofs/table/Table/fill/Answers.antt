-- `table::Table::fill`: the symbols are in order, and what is noted of each is what was last said.
use Prim.Native.Nat.{ℕ, ◌≤◌}
use mathlib.Core.Path.{subst}
use native.Mathlib.Omega.{arith}
use mathlib.Core.List.{List}
use lib.ListN.{length}
use Rattle.symbol.specs.declared.Symbol.{Symbol}
use Rattle.drift.specs.Rows.{rows_in}
use Rattle.drift.specs.Code.{Gathered, Noted}
use Rattle.drift.specs.Code as Code
use Rattle.drift.proofs.Lines.{some_room, all_room, whole_rows, front_noted, filled_lines}
use Rattle.drift.proofs.table.Table.fill.Given.{Over}
use Rattle.drift.proofs.table.Table.fill.Goals.{After-new-positions, After-new-targets, After-gather-some, After-gather-n}
use Rattle.drift.proofs.table.Table.fill.Goals as goal

gathered_some : (g : Over) (c : After-gather-some g) → Gathered c.args.self.now.keys 0 (rows_in 32 c.args.lists.positions.now) c.gather-some.new.keys c.gather-some.result
gathered_some g c =
    let r = c.new-positions in
    subst (λ (rs : List (Symbol × ℕ)). Gathered c.args.self.now.keys 0 rs c.gather-some.new.keys c.gather-some.result)
    (whole_rows 32 c.args.lists.positions.now r.result r.ensures.lent r.ensures.size r.ensures.whole) c.gather-some.ensures

gathered_all : (g : Over) (c : After-gather-n g) → Gathered c.gather-some.new.keys c.gather-some.result (rows_in 24 c.args.lists.targets.now) c.gather-n.new.keys c.gather-n.result
gathered_all g c =
    let r = c.new-targets in
    subst (λ (rs : List (Symbol × ℕ)). Gathered c.gather-some.new.keys c.gather-some.result rs c.gather-n.new.keys c.gather-n.result)
    (whole_rows 24 c.args.lists.targets.now r.result r.ensures.lent r.ensures.size r.ensures.whole) c.gather-n.ensures

pub gather-some-requires-clause-rising : goal.gather-some-requires-clause-rising
gather-some-requires-clause-rising g c = Code.Rising.none

pub gather-n-requires-clause-room : goal.gather-n-requires-clause-room
gather-n-requires-clause-room g c =
    let l = c.args.lists in
    let s = c.args.self.now in
    omega (arith, c.new-targets.ensures.whole, some_room l.positions.now l.targets.now l.prices.now l.sound l.bytes s.keys s.quantities s.weights s.costs c.requires c.gather-some.new.keys c.gather-some.result c.gather-some.auto.keys (gathered_some g (goal.at.gather-n-requires-clause-room g c).After-gather-some))

pub shared_whole_as_front-keys : goal.shared_whole_as_front-keys
shared_whole_as_front-keys g c =
    let l = c.args.lists in
    let s = c.args.self.now in
    let at = goal.at.shared_whole_as_front-keys g c in
    let r = all_room l.positions.now l.targets.now l.prices.now l.sound l.bytes s.keys s.quantities s.weights s.costs c.requires c.gather-some.new.keys c.gather-n.new.keys c.gather-some.result c.gather-n.result c.gather-some.auto.keys c.gather-n.auto.keys (gathered_some g at.After-gather-some) (gathered_all g at.After-gather-n) in
    (omega (arith, r), omega (arith, s.small))

pub returns-clause-room : goal.returns-clause-room
returns-clause-room g c =
    let l = c.args.lists in
    let s = c.args.self.now in
    let at = goal.at.returns-clause-room g c in
    let r = all_room l.positions.now l.targets.now l.prices.now l.sound l.bytes s.keys s.quantities s.weights s.costs c.requires c.gather-some.new.keys c.gather-n.new.keys c.gather-some.result c.gather-n.result c.gather-some.auto.keys c.gather-n.auto.keys (gathered_some g at.After-gather-some) (gathered_all g at.After-gather-n) in
    omega (arith, r)

pub returns-clause-filled : goal.returns-clause-filled
returns-clause-filled g c =
    let l = c.args.lists in
    let s = c.args.self.now in
    let at = goal.at.returns-clause-filled g c in
    let r = all_room l.positions.now l.targets.now l.prices.now l.sound l.bytes s.keys s.quantities s.weights s.costs c.requires c.gather-some.new.keys c.gather-n.new.keys c.gather-some.result c.gather-n.result c.gather-some.auto.keys c.gather-n.auto.keys (gathered_some g at.After-gather-some) (gathered_all g at.After-gather-n) in
    record { most = omega (arith, r, s.small); keys = omega (arith, r); quantities = omega (arith, r); weights = omega (arith, r); costs = omega (arith, r) }

pub returns-clause-lines : goal.returns-clause-lines
returns-clause-lines g c =
    let l = c.args.lists in
    let p = l.positions.now in
    let t = l.targets.now in
    let q = l.prices.now in
    let s = c.args.self.now in
    let ks = c.gather-n.new.keys in
    let n = c.gather-n.result in
    let at = goal.at.returns-clause-lines g c in
    let gs = gathered_some g at.After-gather-some in
    let gn = gathered_all g at.After-gather-n in
    let r : n ≤ length s.keys = all_room p t q l.sound l.bytes s.keys s.quantities s.weights s.costs c.requires c.gather-some.new.keys ks c.gather-some.result n c.gather-some.auto.keys c.gather-n.auto.keys gs gn in
    let h : n ≤ length ks = omega arith in
    let rp = c.new-positions in
    let rt = c.new-targets in
    let rq = c.new in
    filled_lines p t q l.sound l.bytes s.keys s.quantities s.weights s.costs c.requires c.gather-some.new.keys ks c.gather-some.result n c.gather-some.auto.keys c.gather-n.auto.keys gs gn
    c.last_values.new.values c.last_values-2.new.values c.last_values-3.new.values
    (subst (λ (rs : List (Symbol × ℕ)). Noted ks n rs s.quantities c.last_values.new.values) (whole_rows 32 p rp.result rp.ensures.lent rp.ensures.size rp.ensures.whole)
    (front_noted ks n _ s.quantities c.last_values.new.values h c.last_values.ensures))
    (subst (λ (rs : List (Symbol × ℕ)). Noted ks n rs s.weights c.last_values-2.new.values) (whole_rows 24 t rt.result rt.ensures.lent rt.ensures.size rt.ensures.whole)
    (front_noted ks n _ s.weights c.last_values-2.new.values h c.last_values-2.ensures))
    (subst (λ (rs : List (Symbol × ℕ)). Noted ks n rs s.costs c.last_values-3.new.values) (whole_rows 24 q rq.result rq.ensures.lent rq.ensures.size rq.ensures.whole)
    (front_noted ks n _ s.costs c.last_values-3.new.values h c.last_values-3.ensures))

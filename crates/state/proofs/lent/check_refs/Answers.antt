-- `lent::check_refs`: whole records, and what the chain answers of them.
use Rattle.std.proofs.Common.{rules, ap, ◌∙◌}
use Rattle.wire.specs.Layout.{sound_if}
use Rattle.records.proofs.Chains.{table_from_all, table_from_odd}
use Rattle.state.specs.State.{refs_ok}
use Rattle.state.proofs.lent.check_refs.Goals.{then-d-eq0, else-d-eq0}
use Rattle.state.proofs.lent.check_refs.Goals as goal

pub returns : goal.returns
returns c =
    let d = c.args.d.now in
    let ok = refs_ok c.args.text in
    c.sound_if.ensures ∙ ap sound_if (elim c.if-d-eq0.branch [
      | then-d-eq0 w ↦ w.sound_if-is ∙ table_from_all ok 64 d w.if-d-eq0.true w.all.ensures.ran (λ i b q k. search rules)
      | else-d-eq0 w ↦ w.sound_if-is ∙ table_from_odd ok 64 d w.if-d-eq0.false
    ])

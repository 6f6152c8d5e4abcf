-- `wire::same`: the library's equality.
use Rattle.std.proofs.Common.{◌∙◌}
use Rattle.wire.proofs.Written.{same_equal}
use Rattle.wire.proofs.same.Goals as goal

pub returns : goal.returns
returns c = c.eq.ensures ∙ same_equal c.args.a.now c.args.b.now

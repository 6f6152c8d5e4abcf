-- `float::parts::parts_of` meets its contract, by the two ways of the exponent's field. Assumes nothing.
use Rattle.float.proofs.Decode.{parted_low, parted_mid}
use Rattle.float.proofs.parts.parts_of.Goals as goal

pub returns-then-field-eq0 : goal.returns-then-field-eq0
returns-then-field-eq0 c = parted_low c.args.n c.if-field-eq0.true

pub returns-else-field-eq0 : goal.returns-else-field-eq0
returns-else-field-eq0 c = parted_mid c.args.n c.requires c.if-field-eq0.false

-- What lent marks that are no record make of an answer. Definitions only.
use Rattle.std.specs.Prelude.{ℕ, List}
use Rattle.wire.specs.Layout.{both_of}
use Rattle.std.specs.Prelude.{Ok, Err}
use Rattle.wire.specs.declared.refusal.Refusal.TheVariants as Refusal
use Rattle.wire.specs.Layout.{Layout}
use Rattle.wire.specs.Layout.{refused}

-- ---- with lent marks: a record of marks that is none is refused by 2, after 1 of what is lent beside it
abbrev pub marks_first : Layout → Layout → ℕ × ℕ × ℕ → ℕ × ℕ × ℕ
marks_first (Ok u) beside n = n
marks_first (Err q) beside n = (refused (both_of beside (Err Refusal.Broken)), 0, 0)

-- ---- what is left in a buffer: these bytes, or those where the marks are refused
abbrev pub marks_else : Layout → List ℕ → List ℕ → List ℕ
marks_else (Ok u) s t = s
marks_else (Err q) s t = t

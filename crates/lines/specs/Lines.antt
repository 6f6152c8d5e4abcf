-- Text as the desk prints it: decimal numbers without separators, and the names of checkpoints.
-- Assumes nothing.
use Rattle.std.specs.Prelude.{ℕ, zero, suc, ◌+◌, ◌/◌, ◌%◌, List, [], ◌∷◌, ◌++◌, cond, ltb}
use Rattle.checkpoint.specs.Checkpoint.{ascii}
use Rattle.checkpoint.specs.declared.Checkpoint.{Checkpoint}
use Rattle.checkpoint.specs.declared.Checkpoint.TheVariants.{RunStarted, PositionsIntent, PositionsFetched, PositionsResult, DiffComputed, RiskCheckPassed, OrderIntent, OrderSubmitted, OrderFailed, OrderFilled, QuotesIntent, QuotesResult, AccountSummaryIntent, AccountSummaryResult, CancelIntent, CancelResult, RunCompleted}

-- ---- a number in decimal digits, the most significant first, at most so many
unfoldable pub digits : ℕ → ℕ → List ℕ
digits zero n = []
digits (suc most) n = cond (ltb n 10) ((48 + n) ∷ []) (digits most (n / 10) ++ ((48 + n % 10) ∷ []))

-- a u64 has at most twenty
abbrev pub decimal : ℕ → List ℕ
decimal n = digits 20 n

-- ---- a checkpoint's name, as the enum has it
unfoldable pub checkpoint_name : Checkpoint → List ℕ
checkpoint_name RunStarted = ascii "RunStarted"
checkpoint_name PositionsIntent = ascii "PositionsIntent"
checkpoint_name PositionsFetched = ascii "PositionsFetched"
checkpoint_name PositionsResult = ascii "PositionsResult"
checkpoint_name DiffComputed = ascii "DiffComputed"
checkpoint_name RiskCheckPassed = ascii "RiskCheckPassed"
checkpoint_name OrderIntent = ascii "OrderIntent"
checkpoint_name OrderSubmitted = ascii "OrderSubmitted"
checkpoint_name OrderFailed = ascii "OrderFailed"
checkpoint_name OrderFilled = ascii "OrderFilled"
checkpoint_name QuotesIntent = ascii "QuotesIntent"
checkpoint_name QuotesResult = ascii "QuotesResult"
checkpoint_name AccountSummaryIntent = ascii "AccountSummaryIntent"
checkpoint_name AccountSummaryResult = ascii "AccountSummaryResult"
checkpoint_name CancelIntent = ascii "CancelIntent"
checkpoint_name CancelResult = ascii "CancelResult"
checkpoint_name RunCompleted = ascii "RunCompleted"

-- ---- a text and a number after it, and a line of both
abbrev pub newline : List ℕ
newline = 10 ∷ []

abbrev pub field : List ℕ → ℕ → List ℕ
field word n = word ++ decimal n

abbrev pub line : List ℕ → ℕ → List ℕ
line word n = field word n ++ newline

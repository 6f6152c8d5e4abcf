-- The numbers of the answers of the join and of a round. Definitions only.
use Rattle.std.specs.Prelude.{ℕ}
use Rattle.std.specs.Prelude.{Ok, Err, Result}
use Rattle.join.specs.Join.{joining_number}
use Rattle.rounds.specs.Rounds.{rounded_number}
use Rattle.wire.specs.declared.refusal.Refusal.{Refusal}

-- ---- join: the refusal, and the length of the joined book
abbrev pub joining_length : Result ℕ Refusal → ℕ
joining_length (Ok n) = n
joining_length (Err q) = 0

abbrev pub joining_numbers : Result ℕ Refusal → ℕ × ℕ
joining_numbers j = (joining_number j, joining_length j)

-- ---- a round: the refusal, and the length of the next log
abbrev pub rounded_length : Result ℕ Refusal → ℕ
rounded_length (Ok n) = n
rounded_length (Err q) = 0

abbrev pub rounded_numbers : Result ℕ Refusal → ℕ × ℕ
rounded_numbers r = (rounded_number r, rounded_length r)

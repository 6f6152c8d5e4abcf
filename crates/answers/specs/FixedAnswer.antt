-- What a conversion's answer is, in the bytes that a caller lent. Definitions only.
use Rattle.std.specs.Prelude.{ℕ, List, cond, eqb, replicate}
use Rattle.std.proofs.lemmas.List.Edits.{sets}
use Rattle.std.specs.Int.{w64}
use Rattle.std.proofs.Common.{of_z}
use Rattle.wire.specs.Le.{bytes_of}
use Rattle.types.specs.Fixed.{fixed_value}
use Rattle.answers.specs.Answer.{room_number}
use Rattle.std.specs.Prelude.{Result, ℤ}
use Rattle.wire.specs.declared.refusal.Refusal.{Refusal}
use Rattle.wire.specs.Layout.{refused}

-- the refusal's number, 0 where there is none: 9 and 10, then 3 where there is no room for the value
unfoldable pub refusal_in : Result ℤ Refusal → ℕ → ℕ
unfolding room_number
refusal_in r room = room_number 8 (refused r) room

-- all bytes zero, but for the value in the first eight where nothing is refused
unfoldable pub bytes_in : Result ℤ Refusal → ℕ → List ℕ
unfolding refusal_in
bytes_in r room = cond (eqb (refusal_in r room) 0) (sets (replicate room 0) 0 (bytes_of 8 (of_z w64 (fixed_value r)))) (replicate room 0)

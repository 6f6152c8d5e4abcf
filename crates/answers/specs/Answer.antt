-- An answer in the bytes that a caller lent, and of two numbers. Definitions only.
use Rattle.std.specs.Prelude.{ℕ, List, cond, eqb, ltb, replicate}
use Rattle.std.proofs.lemmas.List.Edits.{sets}
use Rattle.wire.specs.Le.{bytes_of}
use Rattle.wire.specs.Layout.{refusal_number}
use Rattle.wire.specs.declared.refusal.Refusal.{Refusal}
use Rattle.answers.specs.declared.Numbers.{Numbers}

-- ---- an answer of so many bytes (size) where so many are lent (room)
-- the refusal's number, 0 where there is none; 3, after every other, where the answer has no room
unfoldable pub room_number : ℕ → ℕ → ℕ → ℕ
room_number size refusal room = cond (eqb refusal 0) (cond (ltb room size) 3 0) refusal

-- the answer's bytes, and those of an output of n bytes beside it: all zero where the answer has no room
unfoldable pub unless_short : ℕ → ℕ → ℕ → List ℕ → List ℕ
unless_short size room n s = cond (ltb room size) (replicate n 0) s

-- ---- two numbers in the first sixteen bytes, the others zero
abbrev pub answer_number : ℕ → ℕ → ℕ
answer_number refusal room = room_number 16 refusal room

unfoldable pub answer_bytes : ℕ → ℕ → ℕ → List ℕ
unfolding unless_short
answer_bytes a b room = unless_short 16 room room (sets (sets (replicate room 0) 0 (bytes_of 8 a)) 8 (bytes_of 8 b))

-- a refusal and two numbers as the code carries them, and a refusal and one
abbrev pub numbers : ℕ × ℕ × ℕ → Numbers
numbers n = record { refusal = n.0; a = n.1; b = n.2 }

abbrev pub number_alone : ℕ × ℕ → ℕ × ℕ × ℕ
number_alone n = (n.0, n.1, 0)

-- what a refused answer carries
abbrev pub refused_numbers : Refusal → Numbers
refused_numbers r = numbers (refusal_number r, 0, 0)

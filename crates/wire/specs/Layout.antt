-- Refusals with document 01's numbers, and the answers to tests of lent bytes.
-- Assumes nothing.
use Rattle.std.specs.Prelude.{ℕ, Bool, true, false, Result, Ok, Err}
use Rattle.wire.specs.declared.refusal.Refusal.{Refusal}

-- the refusal's number
abbrev pub refusal_number : Refusal → ℕ
refusal_number Refusal.Oversize = 1
refusal_number Refusal.Broken = 2
refusal_number Refusal.NoRoom = 3
refusal_number Refusal.NoNumbers = 8
refusal_number Refusal.NotFinite = 9
refusal_number Refusal.OutOfRange = 10
refusal_number Refusal.BadWeight = 11
refusal_number Refusal.Overflow = 12
refusal_number Refusal.TooMany = 13

-- the answer to a test: that the bytes are sound, or a refusal
abbrev pub Layout : Type 0
Layout = Result Unit Refusal

-- what an answer is in document 01: the refusal's number, 0 where there is none
abbrev pub refused : {A : Type 0} → Result A Refusal → ℕ
refused (Ok x) = 0
refused (Err r) = refusal_number r

-- a refusal that is not Oversize, unless another test says Oversize
abbrev pub or_oversize : Refusal → Layout → Layout
or_oversize r (Ok u) = Err r
or_oversize r (Err Refusal.Oversize) = Err Refusal.Oversize
or_oversize r (Err q) = Err r

-- two inputs: 1 on either, then 2 on either
abbrev pub both_of : Layout → Layout → Layout
both_of (Ok u) y = y
both_of (Err Refusal.Oversize) y = Err Refusal.Oversize
both_of (Err r) y = or_oversize r y

-- a test that shows refusal 2 where it fails
abbrev pub sound_if : Bool → Layout
sound_if true = Ok tt
sound_if false = Err Refusal.Broken

-- a test for refusal 1, before another answer
abbrev pub oversize_if : Bool → Layout → Layout
oversize_if true y = Err Refusal.Oversize
oversize_if false y = y

-- a test for refusal 2, before another answer
abbrev pub broken_if : Bool → Layout → Layout
broken_if true y = Err Refusal.Broken
broken_if false y = y

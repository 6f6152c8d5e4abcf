-- A conversion's answer in lent bytes, by the room for it. Assumes nothing.
use mathlib.Core.Path.{◌≡◌, refl, sym, ap, ◌∙◌}
use Prim.Native.Nat.{ℕ}
use mathlib.Core.List.{List}
use mathlib.Core.Bool.{Bool, true, false, cond}
use lib.Dec.{eqb, ltb}
use lib.IntN.{ℤ}
use lib.ListN.{replicate}
use lib.Seq.{sets}
use mir.Syntax.{w64}
use mir.Val.{of_z}
use Rattle.wire.specs.Le.{bytes_of}
use Rattle.wire.specs.Layout.{refusal_number}
use Rattle.answers.specs.Answer.{room_number, unless_short}
use Rattle.answers.specs.FixedAnswer.{refusal_in, bytes_in}
use Rattle.answers.proofs.Given.{IsWithin}
use Rattle.std.specs.Prelude.{Ok, Err, Result}
use Rattle.wire.specs.declared.refusal.Refusal.{Refusal}

-- the number k and the bytes s are the answer
abbrev pub IsAnswer : Result ℤ Refusal → ℕ → ℕ → List ℕ → Type 0
IsAnswer r room k s = (k ≡ refusal_in r room) × (s ≡ bytes_in r room)

pub carry : (room : ℕ) {r q : (Result ℤ Refusal)} {k : ℕ} {s t : List ℕ} → r ≡ q → s ≡ t → IsAnswer q room k t → IsAnswer r room k s
carry room e f a = (a.0 ∙ ap (λ (r : (Result ℤ Refusal)). refusal_in r room) (sym e), f ∙ a.1 ∙ ap (λ (r : (Result ℤ Refusal)). bytes_in r room) (sym e))

-- a refusal's number is not 0
some_number : (q : Refusal) → eqb (refusal_number q) 0 ≡ false
some_number Refusal.Oversize = refl
some_number Refusal.Broken = refl
some_number Refusal.NoRoom = refl
some_number Refusal.NoNumbers = refl
some_number Refusal.NotFinite = refl
some_number Refusal.OutOfRange = refl
some_number Refusal.BadWeight = refl
some_number Refusal.Overflow = refl
some_number Refusal.TooMany = refl

pub refused_answer : (q : Refusal) (room : ℕ) → IsAnswer (Err q) room (refusal_number q) (replicate room 0)
unfolding room_number refusal_in bytes_in
refused_answer q room = rw (some_number q, some_number q) (refl, refl)

by_room : (b : Bool) (x y : List ℕ) → cond b x y ≡ cond (eqb (cond b 3 0) 0) y x
by_room true x y = refl
by_room false x y = refl

pub value_within : (z : ℤ) (room : ℕ) {k : ℕ} {s : List ℕ} → IsWithin 8 0 room (sets (replicate room 0) 0 (bytes_of 8 (of_z w64 z))) k s → IsAnswer (Ok z) room k s
unfolding room_number unless_short refusal_in bytes_in
value_within z room w = (w.0, w.1 ∙ by_room (ltb room 8) _ _)

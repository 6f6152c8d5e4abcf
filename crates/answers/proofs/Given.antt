-- An answer in lent bytes, by the room for it, and the outputs beside it. About no function. Assumes nothing.
use mathlib.Core.Path.{◌≡◌, refl, ap, ◌∙◌}
use Prim.Native.Nat.{ℕ, ◌<◌, ◌≤◌}
use mathlib.Core.List.{List}
use mathlib.Core.Bool.{Bool, true, false, cond}
use lib.Dec.{eqb}
use lib.ListN.{replicate}
use native.Mathlib.Omega.{arith}
use borrow.Author.Tests.{lt-ltb, le-ltb, eqb-true}
use Rattle.answers.specs.Answer.{room_number, unless_short, answer_number, answer_bytes}
use Rattle.answers.specs.declared.Numbers.{Numbers}

-- ---- without room
pub short_number : (size refusal room : ℕ) → room < size → answer_number refusal 0 ≡ room_number size refusal room
unfolding room_number
short_number size refusal room h = rw (lt-ltb room size h)

pub short_bytes : (size room : ℕ) → room < size → (n : ℕ) (s : List ℕ) → replicate n 0 ≡ unless_short size room n s
unfolding unless_short
short_bytes size room h n s = rw (lt-ltb room size h)

-- ---- with room
or_zero : (b : Bool) (n : ℕ) → (b ≡ true → n ≡ 0) → n ≡ cond b 0 n
or_zero true n h = h refl
or_zero false n h = refl

pub roomy_number : (size refusal room : ℕ) → size ≤ room → refusal ≡ room_number size refusal room
unfolding room_number
roomy_number size refusal room h = rw (le-ltb room size h) (or_zero (eqb refusal 0) refusal (eqb-true refusal 0))

pub roomy_bytes : (size room : ℕ) → size ≤ room → (n : ℕ) (s : List ℕ) → s ≡ unless_short size room n s
unfolding unless_short
roomy_bytes size room h n s = rw (le-ltb room size h)

-- ---- the number k and the bytes s are an answer of so many bytes (size) in this room, which says this refusal and the bytes t
abbrev pub IsWithin : ℕ → ℕ → ℕ → List ℕ → ℕ → List ℕ → Type 0
IsWithin size refusal room t k s = (k ≡ room_number size refusal room) × (s ≡ unless_short size room room t)

-- the answer that takes the whole room
pub within_whole : (size refusal : ℕ) {room : ℕ} {t s : List ℕ} → room ≡ size → s ≡ t → IsWithin size refusal room t refusal s
within_whole size refusal {room = room} {t = t} e f =
    let h : size ≤ room = omega arith in
    (roomy_number size refusal room h, f ∙ roomy_bytes size room h room t)

-- one answer for another
pub within_same : (size : ℕ) {refusal number m room : ℕ} {t u : List ℕ} {k : ℕ} {s : List ℕ}
    → refusal ≡ number → m ≡ room → t ≡ u → IsWithin size refusal m t k s → IsWithin size number room u k s
within_same size {number = number} {m = m} {room = room} {t = t} r e f w =
    (w.0 ∙ ap (λ (n : ℕ). room_number size n m) r ∙ ap (room_number size number) e, w.1 ∙ ap (λ (n : ℕ). unless_short size n n t) e ∙ ap (unless_short size room room) f)

-- ---- the number k and the bytes s are an answer of two numbers
abbrev pub IsGiven : Numbers → ℕ → ℕ → List ℕ → Type 0
IsGiven n room k s = (k ≡ answer_number n.refusal room) × (s ≡ answer_bytes n.a n.b room)

-- one set of numbers for another
pub of_same : (room : ℕ) {n m : Numbers} {k : ℕ} {s : List ℕ} → n ≡ m → IsGiven n room k s → IsGiven m room k s
of_same room e g = (g.0 ∙ ap (λ (x : Numbers). answer_number x.refusal room) e, g.1 ∙ ap (λ (x : Numbers). answer_bytes x.a x.b room) e)

-- ---- one output for another
pub beside : (size room : ℕ) (n m : ℕ) (s t u : List ℕ) → u ≡ unless_short size room n s → n ≡ m → s ≡ t → u ≡ unless_short size room m t
beside size room n m s t u h e f = h ∙ ap (λ (k : ℕ). unless_short size room k s) e ∙ ap (unless_short size room m) f

-- What an answer about two layouts says of each. About no function.
-- Assumes nothing.
use native.Mathlib.Omega.{arith}
use Rattle.std.specs.Prelude.{◌≡◌, refl, Ok, Err}
use Rattle.wire.specs.Layout.{Layout, or_oversize, both_of}
use Rattle.wire.specs.declared.refusal.Refusal.{Refusal}

pub never_sound : {B : Type 0} (r : Refusal) → ◌≡◌ {A = Layout} (Err r) (Ok tt) → B
never_sound r h = absurd (grind arith)

-- after a refusal nothing is sound
pub refused_or : (r : Refusal) (y : Layout) → or_oversize r y ≡ Ok tt → ⊥
refused_or r (Ok u) h = grind arith
refused_or r (Err Refusal.Oversize) h = grind arith
refused_or r (Err q) h = grind arith

pub both_sound : (x y : Layout) → both_of x y ≡ Ok tt → (x ≡ Ok tt) × (y ≡ Ok tt)
both_sound (Ok tt) y h = (refl, h)
both_sound (Err Refusal.Oversize) y h = grind arith
both_sound (Err r) y h = absurd (refused_or r y h)

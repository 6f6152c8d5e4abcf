-- What a test of lent marks says. About no function. Assumes nothing.
use mathlib.Core.Path.{◌≡◌, refl, sym, ap, ◌∙◌}
use mathlib.Core.Bool.{Bool, true, false, ◌&&◌, true≢false}
use Rattle.wire.specs.Layout.{both_of, sound_if}
use Rattle.std.specs.Prelude.{Ok, Err}
use Rattle.wire.specs.declared.refusal.Refusal.TheVariants as Refusal
use Rattle.wire.specs.Layout.{Layout}

-- of one record, and of two that are not both records
abbrev is_sound : Layout → Bool
is_sound (Ok u) = true
is_sound (Err q) = false

pub told_sound : (b : Bool) {r x : Layout} → r ≡ sound_if b → r ≡ x → is_sound x ≡ b
told_sound true h e = ap is_sound (sym e ∙ h)
told_sound false h e = ap is_sound (sym e ∙ h)

pub one_broken : (a b : Bool) → (a && b) ≡ false → both_of (sound_if a) (sound_if b) ≡ (Err Refusal.Broken)
one_broken true true h = absurd (true≢false h)
one_broken true false h = refl
one_broken false true h = refl
one_broken false false h = refl

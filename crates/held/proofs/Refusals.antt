-- The refusals of `held_value`, in their order.
-- Assumes nothing.
use Prim.Native.Nat.{ℕ}
use mathlib.Core.Path.{◌≡◌, refl, sym, ◌∙◌}
use mathlib.Core.List.{List, [], map}
use Rattle.wire.specs.Layout.{both_of}
use Rattle.wire.specs.Table.{every, records}
use Rattle.records.specs.Record.{table_ok}
use Rattle.drift.specs.Rows.{valued, held_in, targets_in, prices_in, rows_layout}
use Rattle.drift.specs.Report.{lines_of, lists_layout}
use Rattle.held.specs.Value.{worth, value_of, held_of}
use Rattle.std.specs.Prelude.{Ok, Err}
use Rattle.wire.specs.declared.refusal.Refusal.{Refusal}

-- ---- an empty list: it is sound, and targets nothing
pub empty_sound : rows_layout 24 [] ≡ (Ok tt)
unfolding rows_layout table_ok every
empty_sound = refl

pub none_targeted : targets_in [] ≡ []
unfolding valued records
none_targeted = refl

-- ---- held value
module _ (p q : List ℕ) where
  -- the layout of three lists, of which the second is empty
  two_lists : lists_layout p [] q ≡ both_of (rows_layout 32 p) (rows_layout 24 q)
  two_lists = rw empty_sound

  pub held_refused : (r : Refusal) → lists_layout p [] q ≡ Err r → Err r ≡ held_of p q
  unfolding held_of
  held_refused r e = rw (sym two_lists ∙ e)

  pub held_sound : lists_layout p [] q ≡ Ok tt → value_of (map worth (lines_of (held_in p) (targets_in []) (prices_in q))) ≡ held_of p q
  unfolding held_of
  held_sound e = rw (none_targeted, sym two_lists ∙ e)

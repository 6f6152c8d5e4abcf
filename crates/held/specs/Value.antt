-- Held value: the sum of quantity × price over held symbols, prices above 0 only.
-- Assumes nothing.
use Rattle.std.specs.Prelude.{ℕ, List, [], ◌∷◌, map, cond, ◌&&◌, ℤ, pos, ◌+ℤ◌, ◌*ℤ◌}
use Rattle.std.specs.Int.Signed.{lt_z}
use Rattle.wire.specs.Layout.{Layout, both_of}
use Rattle.drift.specs.Rows.{held_in, prices_in, rows_layout}
use Rattle.drift.specs.Symbols.{all_where}
use Rattle.drift.specs.Entry.{Line, fits64}
use Rattle.drift.specs.Report.{lines_of}
use Rattle.std.specs.Prelude.{Ok, Err, Result}
use Rattle.wire.specs.declared.refusal.Refusal.{Refusal}

-- what a line adds
abbrev pub worth_of : ℤ → ℤ → ℤ
worth_of quantity price = cond (lt_z (pos 0) price) (quantity *ℤ price) (pos 0)

abbrev pub worth : Line → ℤ
worth l = worth_of l.quantity l.price

unfoldable pub total : List ℤ → ℤ
total [] = pos 0
total (z ∷ zs) = z +ℤ total zs

-- refusal 12: a product or the total outside i64; no running sum is tested
unfoldable pub value_of : List ℤ → Result ℤ Refusal
unfolding all_where total
value_of zs = cond (all_where fits64 zs && fits64 (total zs)) (Ok (total zs)) (Err Refusal.Overflow)

abbrev pub after_sound : Layout → Result ℤ Refusal → Result ℤ Refusal
after_sound (Err q) r = Err q
after_sound (Ok u) r = r

-- the lines of what is held: no target adds a symbol
unfoldable pub held_of : List ℕ → List ℕ → Result ℤ Refusal
unfolding value_of lines_of rows_layout
held_of positions prices =
    after_sound (both_of (rows_layout 32 positions) (rows_layout 24 prices)) (value_of (map worth (lines_of (held_in positions) [] (prices_in prices))))

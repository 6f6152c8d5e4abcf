-- What the code keeps in its arrays: the symbols' keys in order, and what was last said of each. No entry's promise cites it.
-- Assumes nothing.
use Rattle.std.specs.Prelude.{ℕ, zero, suc, ◌+◌, ◌-◌, ◌*◌, ◌^◌, ◌%◌, ◌/◌, ◌≤◌, ◌<◌, ◌≡◌, List, [], ◌∷◌, map, Bool, true, cond, ◌&&◌, eqb, ltb, ℤ, ◌*ℤ◌, Float, length, take, get_or, replicate}
use Rattle.std.specs.Int.Count.{count_leading_zeros}
use Rattle.std.specs.Float.{binary64}
use Rattle.std.specs.Float.Ieee.{of_bits}
use Rattle.std.specs.Int.{w64}
use Rattle.std.proofs.Common.{to_z}
use Rattle.symbol.specs.declared.Symbol.{Symbol}
use Rattle.drift.specs.Rows.{rows_layout}
use Rattle.drift.specs.Symbols.{sorted_with}
use Rattle.drift.specs.Entry.{Line, fits64, needed, actual_weight, entry_of, entry_fits}
use Rattle.drift.specs.declared.entry.ReconcileEntry.{ReconcileEntry}
use Rattle.std.specs.Prelude.{Some, None, Ok, Err, Option, Result}
use Rattle.wire.specs.declared.refusal.Refusal.{Refusal}

-- ---- answers
abbrev pub whole_of : ℤ → Option ℤ
whole_of z = cond (fits64 z) (Some z) None

unfoldable pub weight_answer : ℤ → ℤ → ℤ → Result Float Refusal
weight_answer quantity price equity =
    cond (cond (needed price equity) (fits64 (quantity *ℤ price)) true) (Ok (actual_weight quantity price equity)) (Err Refusal.Overflow)

unfoldable pub made_of : ℤ → Float → ℤ → ℤ → Result ReconcileEntry Refusal
made_of quantity weight price equity = cond (entry_fits quantity weight price equity) (Ok (entry_of quantity weight price equity)) (Err Refusal.Overflow)

-- ---- a symbol's key: its number with its n bytes the other way round. Symbols are in order as their keys are, and a key's key is the number again
unfoldable pub swapped : ℕ → ℕ → ℕ
swapped zero x = 0
swapped (suc n) x = x % 256 * 256 ^ n + swapped n (x / 256)

abbrev pub key : ℕ → ℕ
key x = swapped 8 x

abbrev pub key_of : Symbol → ℕ
key_of y = key y.word

-- the symbol of a number: the bytes up to the last that is not 0
abbrev pub len_of : ℕ → ℕ
len_of x = (71 - count_leading_zeros 64 x) / 8

abbrev pub symbol_at : ℕ → Symbol
symbol_at x = record { word = x; len = len_of x }

-- ---- numbers in order, each above the one before
pub data Over (m : ℕ) : List ℕ → Type 0 where
  none : Over m []
  more : {x : ℕ} {xs : List ℕ} → m < x → Over m xs → Over m (x ∷ xs)

pub data Rising : List ℕ → Type 0 where
  none : Rising []
  more : {x : ℕ} {xs : List ℕ} → Over x xs → Rising xs → Rising (x ∷ xs)

-- where a search for x among the first n stands: those before `low` are below x, and those from `high` on are not
pub record Within (ks : List ℕ) (n x low high : ℕ) : Type 0 where
  pub least : low ≤ high
  pub most : high ≤ n
  pub below : (i : ℕ) → i < low → get_or ks i 0 < x
  pub above : (i : ℕ) → high ≤ i → i < n → x ≤ get_or ks i 0

-- the place of x among the first n
abbrev pub Place : List ℕ → ℕ → ℕ → ℕ → Type 0
Place ks n x p = Within ks n x p p

-- whether it stands there
abbrev pub found : List ℕ → ℕ → ℕ → ℕ → Bool
found ks n p x = ltb p n && eqb (get_or ks p 0) x

-- a list of rows, all of them there
pub record Listed (s : List ℕ) (w count : ℕ) : Type 0 where
  pub least : 24 ≤ w
  pub there : w * count ≤ length s

abbrev pub keys_of : List (Symbol × ℕ) → List ℕ
keys_of rows = map (λ (r : Symbol × ℕ). key_of r.0) rows

pub record Gathered (ks : List ℕ) (n : ℕ) (rows : List (Symbol × ℕ)) (after : List ℕ) (r : ℕ) : Type 0 where
  pub most : r ≤ n + length rows
  pub sorted : take r after ≡ sorted_with ltb (take n ks) (keys_of rows)
  pub rising : Rising (take r after)

-- ---- what was last said of the symbol with the key x
unfoldable pub last_bits : ℕ → ℕ → List (Symbol × ℕ) → ℕ
last_bits b x [] = b
last_bits b x (r ∷ rs) = last_bits (cond (eqb (key_of r.0) x) r.1 b) x rs

pub record Marked (ks : List ℕ) (n x bits : ℕ) (at after : List ℕ) : Type 0 where
  pub each : (k : ℕ) → k < n → get_or after k 0 ≡ cond (eqb x (get_or ks k 0)) bits (get_or at k 0)

pub record Noted (ks : List ℕ) (n : ℕ) (rows : List (Symbol × ℕ)) (at after : List ℕ) : Type 0 where
  pub each : (k : ℕ) → k < n → get_or after k 0 ≡ last_bits (get_or at k 0) (get_or ks k 0) rows

-- ---- the lines in the arrays
abbrev pub line_at : List ℕ → List ℕ → List ℕ → List ℕ → ℕ → Line
line_at ks qs ts ps k =
    record {
      symbol = symbol_at (key (get_or ks k 0));
      quantity = to_z w64 (get_or qs k 0);
      weight = of_bits binary64 (get_or ts k 0);
      price = to_z w64 (get_or ps k 0);
    }

-- f k and the n - 1 after it
unfoldable pub run : {A : Type 0} → (ℕ → A) → ℕ → ℕ → List A
run f k zero = []
run f k (suc n) = f k ∷ run f (k + 1) n

abbrev pub lines_at : List ℕ → List ℕ → List ℕ → List ℕ → ℕ → List Line
lines_at ks qs ts ps n = run (line_at ks qs ts ps) 0 n

-- ---- what the code that fills the arrays and reads them is given: lists that are sound, arrays that are zero and have room for a symbol of each row
-- held or targeted, n lines
pub record SoundLists (positions targets prices : List ℕ) : Type 0 where
  pub held : rows_layout 32 positions ≡ (Ok tt)
  pub wanted : rows_layout 24 targets ≡ (Ok tt)
  pub priced : rows_layout 24 prices ≡ (Ok tt)

-- their elements are bytes
pub record ByteLists (positions targets prices : List ℕ) : Type 0 where
  pub held : (k : ℕ) → get_or positions k 0 < 2 ^ 8
  pub wanted : (k : ℕ) → get_or targets k 0 < 2 ^ 8
  pub priced : (k : ℕ) → get_or prices k 0 < 2 ^ 8

pub record Blank (positions targets ks qs ts ps : List ℕ) : Type 0 where
  pub room : length positions / 32 + length targets / 24 ≤ length ks
  pub quantities : qs ≡ replicate (length ks) 0
  pub weights : ts ≡ replicate (length ks) 0
  pub costs : ps ≡ replicate (length ks) 0

pub record Filled (n : ℕ) (ks qs ts ps : List ℕ) : Type 0 where
  pub most : n ≤ 2048
  pub keys : n ≤ length ks
  pub quantities : n ≤ length qs
  pub weights : n ≤ length ts
  pub costs : n ≤ length ps

-- Marks by example: where the last numbers of each pair stand, that they are read back, and that a record has 176 bytes. About no function.
-- Assumes nothing.
use mathlib.Core.Path.{◌≡◌, refl}
use mathlib.Core.List.{[], ◌∷◌, ◌++◌}
use mathlib.Core.Bool.{true, false}
use lib.Dec.{lit<}
use lib.IntN.{pos, negsuc}
use lib.ListN.{take, drop}
use Rattle.wire.specs.Le.{le, bytes_of}
use Rattle.wire.specs.Table.{every, records}
use Rattle.checkpoint.specs.Checkpoint.{checkpoints}
use Rattle.checkpoint.specs.declared.Checkpoint.TheVariants.{QuotesIntent}
use Rattle.marks.specs.declared.Marks.{Marks}
use Rattle.marks_record.specs.MarksRecord.{marks_bytes, marks_of, number_ok, marks_ok}
use Rattle.marks_record.proofs.Back.{MarksFits, is, nothing, marks_back}
use Rattle.std.specs.Prelude.{Some, None}

-- quotes answered at 12 and asked for again at 13, the account asked for at 8 and answered at 9; a negative equity
sample : Marks
sample =
    record {
      checkpoint = QuotesIntent;
      number = 13;
      time = pos 5;
      equity = negsuc 1;
      completed = false;
      positions = record { intent = true; result = true; intended = Some 2; resulted = None };
      quotes = record { intent = true; result = true; intended = Some 13; resulted = Some 12 };
      account = record { intent = true; result = true; intended = Some 8; resulted = Some 9 };
      cancel = record { intent = false; result = false; intended = None; resulted = None };
      cancelfailed = false;
    }

-- a mark and a number for each of the eight last numbers, from 48 on
last_numbers : records (le 8) 8 16 (drop 48 (marks_bytes sample)) ≡ 1 ∷ 2 ∷ 0 ∷ 0 ∷ 1 ∷ 13 ∷ 1 ∷ 12 ∷ 1 ∷ 8 ∷ 1 ∷ 9 ∷ 0 ∷ 0 ∷ 0 ∷ 0 ∷ []
unfolding sample marks_bytes bytes_of le records
last_numbers = refl

sample_fits : MarksFits sample
unfolding sample
sample_fits =
    record {
      number = lit< tt;
      time = record { sfits = lit< tt };
      equity = record { sfits = lit< tt };
      positions = record { intended = is (lit< tt); resulted = nothing };
      quotes = record { intended = is (lit< tt); resulted = is (lit< tt) };
      account = record { intended = is (lit< tt); resulted = is (lit< tt) };
      cancel = record { intended = nothing; resulted = nothing };
    }

sample_back : marks_of (marks_bytes sample) ≡ sample
sample_back = marks_back sample sample_fits

-- the same by computation
sample_read : marks_of (marks_bytes sample) ≡ sample
unfolding sample marks_bytes marks_of bytes_of le checkpoints
sample_read = refl

-- a byte less and a byte more are no record
sample_passes : marks_ok (marks_bytes sample) ≡ true
unfolding sample marks_bytes marks_ok number_ok every bytes_of le
sample_passes = refl

byte_less : marks_ok (take 175 (marks_bytes sample)) ≡ false
unfolding sample marks_bytes marks_ok number_ok every bytes_of le
byte_less = refl

byte_more : marks_ok (marks_bytes sample ++ 0 ∷ []) ≡ false
unfolding sample marks_bytes marks_ok number_ok every bytes_of le
byte_more = refl

-- Marks in a record of 176 bytes, as they cross the C boundary: the bytes of a value, the value of bytes, and the test that lent marks undergo.
-- Assumes nothing.
use Rattle.std.specs.Prelude.{ℕ, ◌-◌, List, ◌++◌, Bool, true, false, ◌&&◌, ◌||◌, eqb, leb, length, drop, get_or}
use Rattle.std.specs.Int.{w64, from_bool}
use Rattle.std.proofs.Common.{to_z, of_z}
use Rattle.wire.specs.Le.{le, bytes_of}
use Rattle.wire.specs.Table.{every}
use Rattle.wire.specs.Layout.{sound_if}
use Rattle.checkpoint.specs.Checkpoint.{checkpoint_number, checkpoints}
use Rattle.checkpoint.specs.declared.Checkpoint.{Checkpoint}
use Rattle.checkpoint.specs.declared.Checkpoint.TheVariants.{RunStarted}
use Rattle.marks.specs.declared.Marks.{Marks}
use Rattle.marks.specs.declared.Pair.{Pair}
use Rattle.std.specs.Prelude.{Some, None, Option}
use Rattle.wire.specs.Layout.{Layout}

-- ---- a truth is 0 or 1
abbrev pub truth_number : Bool → ℕ
truth_number b = from_bool b

-- a last number: 1 and the number, or two zeros
abbrev pub number_bytes : Option ℕ → List ℕ
number_bytes (Some n) = bytes_of 8 1 ++ bytes_of 8 n
number_bytes None = bytes_of 8 0 ++ bytes_of 8 0

-- ---- the record: u64 checkpoint 1 to 17, u64 number, i64 time, i64 equity
abbrev pub head_bytes : Marks → List ℕ
head_bytes m = bytes_of 8 (checkpoint_number m.checkpoint) ++ bytes_of 8 m.number ++ bytes_of 8 (of_z w64 m.time) ++ bytes_of 8 (of_z w64 m.equity)

-- then u8 completed, cancel_failed, and the eight logged flags, six zeros
abbrev pub flag_bytes : Pair → List ℕ
flag_bytes p = bytes_of 1 (truth_number p.intent) ++ bytes_of 1 (truth_number p.result)

abbrev pub flags_bytes : Marks → List ℕ
flags_bytes m =
    bytes_of 1 (truth_number m.completed) ++ bytes_of 1 (truth_number m.cancelfailed) ++ flag_bytes m.positions ++ flag_bytes m.quotes
    ++ flag_bytes m.account ++ flag_bytes m.cancel ++ bytes_of 6 0

-- then the eight last numbers in the same order
abbrev pub pair_bytes : Pair → List ℕ
pair_bytes p = number_bytes p.intended ++ number_bytes p.resulted

abbrev pub pairs_bytes : Marks → List ℕ
pairs_bytes m = pair_bytes m.positions ++ pair_bytes m.quotes ++ pair_bytes m.account ++ pair_bytes m.cancel

unfoldable pub marks_bytes : Marks → List ℕ
marks_bytes m = head_bytes m ++ (flags_bytes m ++ pairs_bytes m)

-- ---- read back; a number that names no checkpoint stands in no record that passes the test
abbrev pub checkpoint_of : ℕ → Checkpoint
checkpoint_of n = get_or checkpoints (n - 1) RunStarted

abbrev pub truth_of : ℕ → Bool
truth_of n = eqb n 1

abbrev pub number_if : Bool → ℕ → Option ℕ
number_if true n = Some n
number_if false n = None

abbrev pub number_of : List ℕ → Option ℕ
number_of s = number_if (truth_of (le 8 s)) (le 8 (drop 8 s))

-- the pair whose two flags stand at the front of one list, and its two numbers at the front of another
abbrev pub pair_of : List ℕ → List ℕ → Pair
pair_of flags numbers =
    record {
      intent = truth_of (le 1 flags);
      result = truth_of (le 1 (drop 1 flags));
      intended = number_of numbers;
      resulted = number_of (drop 16 numbers);
    }

unfoldable pub marks_of : List ℕ → Marks
unfolding checkpoints
marks_of s =
    record {
      checkpoint = checkpoint_of (le 8 s);
      number = le 8 (drop 8 s);
      time = to_z w64 (le 8 (drop 16 s));
      equity = to_z w64 (le 8 (drop 24 s));
      completed = truth_of (le 1 (drop 32 s));
      positions = pair_of (drop 34 s) (drop 48 s);
      quotes = pair_of (drop 36 s) (drop 80 s);
      account = pair_of (drop 38 s) (drop 112 s);
      cancel = pair_of (drop 40 s) (drop 144 s);
      cancelfailed = truth_of (le 1 (drop 33 s));
    }

-- ---- the test: 176 bytes, a checkpoint, truths, zeros, and no number where there is none
abbrev pub truth_ok : List ℕ → Bool
truth_ok s = leb (le 1 s) 1

unfoldable pub number_ok : List ℕ → Bool
number_ok s = eqb (le 8 s) 1 || (eqb (le 8 s) 0 && eqb (le 8 (drop 8 s)) 0)

unfoldable pub marks_ok : List ℕ → Bool
unfolding every number_ok
marks_ok s =
    eqb (length s) 176 && leb 1 (le 8 s) && leb (le 8 s) 17 && every truth_ok 1 10 (drop 32 s) && eqb (le 4 (drop 42 s)) 0 && eqb (le 2 (drop 46 s)) 0
    && every number_ok 16 8 (drop 48 s)

abbrev pub marks_layout : List ℕ → Layout
marks_layout s = sound_if (marks_ok s)

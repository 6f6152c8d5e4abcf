-- Numbers of the record written one after the other. About no function.
-- Assumes nothing.
use Prim.Native.Nat.{ℕ, ◌+◌}
use mathlib.Core.Path.{◌≡◌, sym, ap, ◌∙◌}
use mathlib.Core.List.{List, ◌++◌, append_assoc}
use lib.ListN.{length, length-append}
use lib.Seq.{sets}
use Rattle.wire.specs.Le.{bytes_of}
use Rattle.wire.proofs.Written.{length_bytes_of}
use Rattle.wire.proofs.Words.{sets_number, two_words}
use Rattle.wire.proofs.Records.{sets_append}
use Rattle.marks.specs.declared.Marks.{Marks}
use Rattle.marks.specs.declared.Pair.{Pair}
use Rattle.marks_record.specs.MarksRecord.{truth_number, number_bytes, head_bytes, flag_bytes, flags_bytes, pair_bytes, pairs_bytes, marks_bytes}
use Rattle.std.specs.Prelude.{Some, None, Option, is_some, unwrap_or}

-- a list after another of known length
pub behind : (n : ℕ) (s t d : List ℕ) (at : ℕ) → length s ≡ n → sets (sets d at s) (at + n) t ≡ sets d at (s ++ t)
behind n s t d at e = sym (sets_append d s t at ∙ ap (λ (k : ℕ). sets (sets d at s) (at + k) t) e)

pub number_size : (n : (Option ℕ)) → length (number_bytes n) ≡ 16
number_size (Some x) = simp (length-append, length_bytes_of)
number_size None = simp (length-append, length_bytes_of)

-- a last number's mark and the number
pub number_written : (d : List ℕ) (at : ℕ) (n : Option ℕ) (k : ℕ) → k ≡ truth_number (is_some n)
    → sets (sets d at (bytes_of 8 k)) (at + 8) (bytes_of 8 (unwrap_or n 0)) ≡ sets d at (number_bytes n)
number_written d at (Some x) k e = rw e (two_words d at 1 x)
number_written d at None k e = rw e (two_words d at 0 0)

pub pair_written : (d : List ℕ) (at : ℕ) (p : Pair) → sets (sets d at (number_bytes p.intended)) (at + 16) (number_bytes p.resulted) ≡ sets d at (pair_bytes p)
pair_written d at p = behind 16 (number_bytes p.intended) (number_bytes p.resulted) d at (number_size p.intended)

pub pair_size : (p : Pair) → length (pair_bytes p) ≡ 32
pair_size p = length-append (number_bytes p.intended) (number_bytes p.resulted) ∙ rw (number_size p.intended, number_size p.resulted)

pub pairs_written : (d : List ℕ) (m : Marks)
    → sets (sets (sets (sets d 48 (pair_bytes m.positions)) 80 (pair_bytes m.quotes)) 112 (pair_bytes m.account)) 144 (pair_bytes m.cancel)
    ≡ sets d 48 (pairs_bytes m)
pairs_written d m =
    let p = pair_bytes m.positions in
    let q = pair_bytes m.quotes in
    let a = pair_bytes m.account in
    let c = pair_bytes m.cancel in
    let two : length (p ++ q) ≡ 64 = length-append p q ∙ rw (pair_size m.positions, pair_size m.quotes) in
    let three : length (p ++ q ++ a) ≡ 96 = length-append (p ++ q) a ∙ rw (two, pair_size m.account) in
    ap (λ (s : List ℕ). sets (sets s 112 a) 144 c) (behind 32 p q d 48 (pair_size m.positions))
    ∙ ap (λ (s : List ℕ). sets s 144 c) (behind 64 (p ++ q) a d 48 two)
    ∙ behind 96 (p ++ q ++ a) c d 48 three

pub flag_written : (d : List ℕ) (at : ℕ) (p : Pair)
    → sets (sets d at (bytes_of 1 (truth_number p.intent))) (at + 1) (bytes_of 1 (truth_number p.result)) ≡ sets d at (flag_bytes p)
flag_written d at p = sym (sets_number 1 (truth_number p.intent) (bytes_of 1 (truth_number p.result)) d at)

pub flags_written : (d : List ℕ) (m : Marks) →
    sets (sets (sets (sets (sets (sets (sets d 32 (bytes_of 1 (truth_number m.completed))) 33 (bytes_of 1 (truth_number m.cancelfailed)))
    34 (flag_bytes m.positions)) 36 (flag_bytes m.quotes)) 38 (flag_bytes m.account)) 40 (flag_bytes m.cancel)) 42 (bytes_of 6 0)
    ≡ sets d 32 (flags_bytes m)
flags_written d m = simp (append_assoc, sets_number)

pub head_written : (d : List ℕ) (a b c e : ℕ) →
    sets (sets (sets (sets d 0 (bytes_of 8 a)) 8 (bytes_of 8 b)) 16 (bytes_of 8 c)) 24 (bytes_of 8 e) ≡ sets d 0 (bytes_of 8 a ++ bytes_of 8 b ++ bytes_of 8 c ++ bytes_of 8 e)
head_written d a b c e = simp (append_assoc, sets_number)

head_size : (m : Marks) → length (head_bytes m) ≡ 32
head_size m = simp (length-append, length_bytes_of)

flags_size : (m : Marks) → length (flags_bytes m) ≡ 16
flags_size m = simp (length-append, length_bytes_of)

pub marks_size : (m : Marks) → length (marks_bytes m) ≡ 176
unfolding marks_bytes
marks_size m = simp (length-append, length_bytes_of, number_size)

pub marks_written : (d : List ℕ) (m : Marks) → sets (sets (sets d 0 (head_bytes m)) 32 (flags_bytes m)) 48 (pairs_bytes m) ≡ sets d 0 (marks_bytes m)
unfolding marks_bytes
marks_written d m =
    behind 16 (flags_bytes m) (pairs_bytes m) (sets d 0 (head_bytes m)) 32 (flags_size m)
    ∙ behind 32 (head_bytes m) (flags_bytes m ++ pairs_bytes m) d 0 (head_size m)

-- A lent record of marks, and recovery's answer, written part by part. About no function. Assumes nothing.
use Prim.Native.Nat.{ℕ, ◌<◌, ◌≤◌}
use mathlib.Core.Path.{◌≡◌, refl, sym, ap, ◌∙◌}
use mathlib.Core.List.{List, ◌++◌}
use mathlib.Core.Bool.{Bool, true, false, cond}
use native.Mathlib.Omega.{arith}
use lib.Dec.{eqb}
use lib.ListN.{length}
use lib.Seq.{sets}
use borrow.Author.Tests.{lt-ltb, le-ltb, eqb-true}
use Rattle.wire.specs.Le.{bytes_of}
use Rattle.wire.specs.Layout.{sound_if}
use Rattle.marks.specs.declared.Marks.{Marks}
use Rattle.marks_record.specs.MarksRecord.{marks_bytes, marks_ok, marks_layout}
use Rattle.marks_record.proofs.Puts.{behind, marks_size}
use Rattle.recovery.specs.declared.recover.Recovered.{Recovered}
use Rattle.answers.proofs.Words.{all_written, three_words}
use Rattle.recovery_answers.specs.RecoveryAnswer.{action_code, recovered_bytes, kept_if_short, record_if}
use Rattle.std.specs.Prelude.{Result, Ok, Err}
use Rattle.std.specs.Result.{result_unwrap_or}
use Rattle.wire.specs.declared.refusal.Refusal.{Refusal}
use Rattle.wire.specs.Layout.{refused}

-- ---- recovery's answer, written part by part
pub recovered_written : (d : List ℕ) (r : Recovered)
    → sets (sets (sets (sets d 0 (marks_bytes r.marks)) 176 (bytes_of 8 r.orders)) 184 (bytes_of 8 r.positions)) 192
    (bytes_of 8 (action_code r.action))
    ≡ sets d 0 (recovered_bytes r)
unfolding recovered_bytes
recovered_written d r =
    three_words (sets d 0 (marks_bytes r.marks)) 176 r.orders r.positions (action_code r.action)
    ∙ behind 176 (marks_bytes r.marks) (bytes_of 8 r.orders ++ bytes_of 8 r.positions ++ bytes_of 8 (action_code r.action)) d 0
    (marks_size r.marks)

-- ---- a lent record of marks
pub record_written : (s : List ℕ) (m : Marks) → length s ≡ 176 → sets s 0 (marks_bytes m) ≡ marks_bytes m
record_written s m e = all_written s (marks_bytes m) (marks_size m ∙ sym e)

length_by : (s : List ℕ) (b : Bool) → eqb (length s) 176 ≡ b → marks_layout s ≡ (Ok tt) → length s ≡ 176
unfolding marks_ok
length_by s true e h = eqb-true (length s) 176 e
length_by s false e h = let z : ◌≡◌ {A = ℕ} 2 0 = ap refused (rw e at h) in absurd (omega arith)

pub marks_length : (s : List ℕ) → marks_ok s ≡ true → length s ≡ 176
marks_length s h = length_by s (eqb (length s) 176) refl (ap sound_if h)

pub kept_short : (room : ℕ) (s t : List ℕ) → room < 16 → s ≡ kept_if_short room s t
unfolding kept_if_short
kept_short room s t h = rw (lt-ltb room 16 h)

pub altered : (room : ℕ) (s t : List ℕ) → 16 ≤ room → t ≡ kept_if_short room s t
unfolding kept_if_short
altered room s t h = rw (le-ltb room 16 h)

-- ---- the record where an event was stepped, and where none was
record_by : (r : Result Bool Refusal) (b : Bool) (s : List ℕ) (m : Marks) → result_unwrap_or r false ≡ b → record_if r s m ≡ cond b (marks_bytes m) s
record_by (Ok true) b s m e = rw (← e)
record_by (Ok false) b s m e = rw (← e)
record_by (Err q) b s m e = rw (← e)

module _ (r : Result Bool Refusal) (s : List ℕ) (m : Marks) where
  pub record_stepped : result_unwrap_or r false ≡ true → marks_bytes m ≡ record_if r s m
  record_stepped e = sym (record_by r true s m e)

  pub record_kept : result_unwrap_or r false ≡ false → s ≡ record_if r s m
  record_kept e = sym (record_by r false s m e)

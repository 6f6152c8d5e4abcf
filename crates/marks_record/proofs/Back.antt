-- Marks that were written are read back as they were, and pass the test: each part is found at its place, since the parts before it have known lengths. About no
-- function. Assumes nothing.
use Prim.Native.Nat.{ℕ, suc, ◌+◌, ◌^◌, ◌≤◌, ◌<◌}
use mathlib.Core.Path.{◌≡◌, refl, sym, ap, ◌∙◌}
use mathlib.Core.List.{List, [], ◌++◌, append_assoc, append-nil}
use mathlib.Core.Bool.{Bool, true, false, ◌&&◌}
use native.Mathlib.Omega.{arith}
use lib.Dec.{eqb, leb}
use borrow.Author.Tests.{le-leb}
use lib.IntN.{ℤ}
use lib.ListN.{length, drop}
use lib.Seq.{drop_at, drop-drop}
use mir.Syntax.{w64}
use mir.Val.{SFits, to_z, of_z}
use mir.ValLaws.{to_z-of_z, of_z_fits}
use Rattle.wire.specs.Le.{le, bytes_of}
use Rattle.wire.specs.Table.{every}
use Rattle.wire.proofs.Written.{le_bytes_of}
use Rattle.checkpoint.specs.Checkpoint.{checkpoint_number, checkpoints}
use Rattle.checkpoint.specs.declared.Checkpoint.{Checkpoint}
use Rattle.checkpoint.specs.declared.Checkpoint.TheVariants.{RunStarted, PositionsIntent, PositionsFetched, PositionsResult, DiffComputed, RiskCheckPassed, OrderIntent, OrderSubmitted, OrderFailed, OrderFilled, QuotesIntent, QuotesResult, AccountSummaryIntent, AccountSummaryResult, CancelIntent, CancelResult, RunCompleted}
use Rattle.checkpoint.proofs.Numbers.{number_within}
use Rattle.marks.specs.declared.Marks.{Marks}
use Rattle.marks.specs.declared.Pair.{Pair}
use Rattle.marks_record.specs.MarksRecord.{truth_number, number_bytes, flag_bytes, pair_bytes, marks_bytes, checkpoint_of, truth_of, number_of, pair_of, marks_of, truth_ok, number_ok, marks_ok}
use Rattle.marks_record.proofs.Puts.{number_size, pair_size, marks_size}
use Rattle.std.specs.Prelude.{Some, None, Option}

-- ---- marks whose numbers are within their types
pub data NumberFits : Option ℕ → Type 0 where
  is : {n : ℕ} → n < 2 ^ 64 → NumberFits (Some n)
  nothing : NumberFits None

pub record PairFits (p : Pair) : Type 0 where
  pub intended : NumberFits p.intended
  pub resulted : NumberFits p.resulted

pub record MarksFits (m : Marks) : Type 0 where
  pub number : m.number < 2 ^ 64
  pub time : SFits w64 m.time
  pub equity : SFits w64 m.equity
  pub positions : PairFits m.positions
  pub quotes : PairFits m.quotes
  pub account : PairFits m.account
  pub cancel : PairFits m.cancel

-- ---- one part, with any bytes after it
checkpoint_back : (k : Checkpoint) → checkpoint_of (checkpoint_number k) ≡ k
unfolding checkpoints
checkpoint_back RunStarted = refl
checkpoint_back PositionsIntent = refl
checkpoint_back PositionsFetched = refl
checkpoint_back PositionsResult = refl
checkpoint_back DiffComputed = refl
checkpoint_back RiskCheckPassed = refl
checkpoint_back OrderIntent = refl
checkpoint_back OrderSubmitted = refl
checkpoint_back OrderFailed = refl
checkpoint_back OrderFilled = refl
checkpoint_back QuotesIntent = refl
checkpoint_back QuotesResult = refl
checkpoint_back AccountSummaryIntent = refl
checkpoint_back AccountSummaryResult = refl
checkpoint_back CancelIntent = refl
checkpoint_back CancelResult = refl
checkpoint_back RunCompleted = refl

checkpoint_fits : (k : Checkpoint) → checkpoint_number k < 2 ^ 64
checkpoint_fits k = omega (arith, number_within k)

checkpoint_ok : (k : Checkpoint) → (leb 1 (checkpoint_number k) && leb (checkpoint_number k) 17) ≡ true
checkpoint_ok k =
    let n = checkpoint_number k in
    let low : 1 ≤ n = omega (arith, number_within k) in
    let high : n ≤ 17 = omega (arith, number_within k) in
    rw (le-leb 1 n low, le-leb n 17 high)

signed_back : (z : ℤ) (t : List ℕ) → SFits w64 z → to_z w64 (le 8 (bytes_of 8 (of_z w64 z) ++ t)) ≡ z
signed_back z t f = ap (to_z w64) (le_bytes_of 8 (of_z w64 z) t (of_z_fits w64 z f).fits) ∙ to_z-of_z w64 z f

truth_back : (b : Bool) (t : List ℕ) → truth_of (le 1 (bytes_of 1 (truth_number b) ++ t)) ≡ b
unfolding bytes_of le
truth_back true t = refl
truth_back false t = refl

truth_ok_lem : (b : Bool) (t : List ℕ) → truth_ok (bytes_of 1 (truth_number b) ++ t) ≡ true
unfolding bytes_of le
truth_ok_lem true t = refl
truth_ok_lem false t = refl

number_back : (n : (Option ℕ)) (t : List ℕ) → NumberFits n → number_of (number_bytes n ++ t) ≡ n
unfolding bytes_of le
number_back (Some n) t (is f) = ap Some (le_bytes_of 8 n [] f)
number_back None t nothing = refl

number_ok_lem : (n : (Option ℕ)) (t : List ℕ) → number_ok (number_bytes n ++ t) ≡ true
unfolding number_ok bytes_of le
number_ok_lem (Some n) t = refl
number_ok_lem None t = refl

pair_back : (p : Pair) (u t : List ℕ) → PairFits p → pair_of (flag_bytes p ++ u) (pair_bytes p ++ t) ≡ p
unfolding bytes_of
pair_back p u t f =
    let a = number_bytes p.intended in
    let b = number_bytes p.resulted in
    let e : pair_bytes p ++ t ≡ a ++ (b ++ t) = append_assoc a b t in
    λ i.
    record {
      intent = truth_back p.intent (bytes_of 1 (truth_number p.result) ++ u) i;
      result = truth_back p.result u i;
      intended = (ap number_of e ∙ number_back p.intended (b ++ t) f.intended) i;
      resulted = (ap (λ (s : List ℕ). number_of (drop 16 s)) e ∙ ap number_of (drop_at a (b ++ t) 16 (number_size p.intended)) ∙ number_back p.resulted t f.resulted) i;
    }

-- ---- the places
module _ (m : Marks) where
  at_positions : drop 48 (marks_bytes m) ≡ pair_bytes m.positions ++ (pair_bytes m.quotes ++ (pair_bytes m.account ++ pair_bytes m.cancel))
  unfolding marks_bytes bytes_of
  at_positions =
      let p = pair_bytes m.positions in
      let q = pair_bytes m.quotes in
      append_assoc (p ++ q) (pair_bytes m.account) (pair_bytes m.cancel) ∙ append_assoc p q (pair_bytes m.account ++ pair_bytes m.cancel)

  after : (n : ℕ) (p : Pair) (t : List ℕ) → drop n (marks_bytes m) ≡ pair_bytes p ++ t → drop (n + 32) (marks_bytes m) ≡ t
  after n p t e = sym (drop-drop 32 n (marks_bytes m)) ∙ ap (drop 32) e ∙ drop_at (pair_bytes p) t 32 (pair_size p)

  at_quotes : drop 80 (marks_bytes m) ≡ pair_bytes m.quotes ++ (pair_bytes m.account ++ pair_bytes m.cancel)
  at_quotes = after 48 m.positions _ at_positions

  at_account : drop 112 (marks_bytes m) ≡ pair_bytes m.account ++ pair_bytes m.cancel
  at_account = after 80 m.quotes _ at_quotes

  at_cancel : drop 144 (marks_bytes m) ≡ pair_bytes m.cancel
  at_cancel = after 112 m.account _ at_account

-- ---- marks that were written are read back
module _ (m : Marks) (f : MarksFits m) where
  checkpoint_at : checkpoint_of (le 8 (marks_bytes m)) ≡ m.checkpoint
  unfolding marks_bytes bytes_of le
  checkpoint_at = ap checkpoint_of (le_bytes_of 8 (checkpoint_number m.checkpoint) [] (checkpoint_fits m.checkpoint)) ∙ checkpoint_back m.checkpoint

  number_at : le 8 (drop 8 (marks_bytes m)) ≡ m.number
  unfolding marks_bytes bytes_of le
  number_at = le_bytes_of 8 m.number [] f.number

  time_at : to_z w64 (le 8 (drop 16 (marks_bytes m))) ≡ m.time
  unfolding marks_bytes bytes_of le
  time_at = signed_back m.time [] f.time

  equity_at : to_z w64 (le 8 (drop 24 (marks_bytes m))) ≡ m.equity
  unfolding marks_bytes bytes_of le
  equity_at = signed_back m.equity [] f.equity

  completed_at : truth_of (le 1 (drop 32 (marks_bytes m))) ≡ m.completed
  unfolding marks_bytes bytes_of le
  completed_at = truth_back m.completed []

  failed_at : truth_of (le 1 (drop 33 (marks_bytes m))) ≡ m.cancelfailed
  unfolding marks_bytes bytes_of le
  failed_at = truth_back m.cancelfailed []

  positions_at_lem : pair_of (drop 34 (marks_bytes m)) (drop 48 (marks_bytes m)) ≡ m.positions
  unfolding marks_bytes bytes_of le
  positions_at_lem = ap (pair_of (drop 34 (marks_bytes m))) (at_positions m) ∙ pair_back m.positions [] _ f.positions

  quotes_at : pair_of (drop 36 (marks_bytes m)) (drop 80 (marks_bytes m)) ≡ m.quotes
  unfolding marks_bytes bytes_of le
  quotes_at = ap (pair_of (drop 36 (marks_bytes m))) (at_quotes m) ∙ pair_back m.quotes [] _ f.quotes

  account_at : pair_of (drop 38 (marks_bytes m)) (drop 112 (marks_bytes m)) ≡ m.account
  unfolding marks_bytes bytes_of le
  account_at = ap (pair_of (drop 38 (marks_bytes m))) (at_account m) ∙ pair_back m.account [] _ f.account

  cancel_at : pair_of (drop 40 (marks_bytes m)) (drop 144 (marks_bytes m)) ≡ m.cancel
  unfolding marks_bytes bytes_of le
  cancel_at = ap (pair_of (drop 40 (marks_bytes m))) (at_cancel m ∙ sym (append-nil (pair_bytes m.cancel))) ∙ pair_back m.cancel [] [] f.cancel

pub marks_back : (m : Marks) → MarksFits m → marks_of (marks_bytes m) ≡ m
unfolding marks_of
marks_back m f =
    λ i.
    record {
      checkpoint = checkpoint_at m f i;
      number = number_at m f i;
      time = time_at m f i;
      equity = equity_at m f i;
      completed = completed_at m f i;
      positions = positions_at_lem m f i;
      quotes = quotes_at m f i;
      account = account_at m f i;
      cancel = cancel_at m f i;
      cancelfailed = failed_at m f i;
    }

-- ---- and pass the test
-- one record more of a table passes
one_more : (ok : List ℕ → Bool) (w n : ℕ) (a t : List ℕ) → length a ≡ w → ok (a ++ t) ≡ true → every ok w n t ≡ true → every ok w (suc n) (a ++ t) ≡ true
unfolding every
one_more ok w n a t e h k = rw (h, drop_at a t w e, k)

pair_ok : (n : ℕ) (p : Pair) (t : List ℕ) → every number_ok 16 n t ≡ true → every number_ok 16 (suc (suc n)) (pair_bytes p ++ t) ≡ true
pair_ok n p t h =
    let a = number_bytes p.intended in
    let b = number_bytes p.resulted in
    rw (append_assoc a b t)
    (one_more number_ok 16 (suc n) a (b ++ t) (number_size p.intended) (number_ok_lem p.intended (b ++ t))
    (one_more number_ok 16 n b t (number_size p.resulted) (number_ok_lem p.resulted t) h))

module _ (m : Marks) where
  numbers_ok : every number_ok 16 8 (drop 48 (marks_bytes m)) ≡ true
  unfolding every
  numbers_ok =
      let c = pair_bytes m.cancel in
      let last : every number_ok 16 2 c ≡ true = ap (every number_ok 16 2) (sym (append-nil c)) ∙ pair_ok 0 m.cancel [] refl in
      ap (every number_ok 16 8) (at_positions m)
      ∙ pair_ok 6 m.positions _ (pair_ok 4 m.quotes _ (pair_ok 2 m.account c last))

  truths_ok : every truth_ok 1 10 (drop 32 (marks_bytes m)) ≡ true
  unfolding every marks_bytes bytes_of le
  truths_ok =
      rw (truth_ok_lem m.completed [], truth_ok_lem m.cancelfailed [], truth_ok_lem m.positions.intent [], truth_ok_lem m.positions.result [], truth_ok_lem m.quotes.intent [], truth_ok_lem m.quotes.result [], truth_ok_lem m.account.intent [], truth_ok_lem m.account.result [], truth_ok_lem m.cancel.intent [], truth_ok_lem m.cancel.result [])

  first_ok : (leb 1 (le 8 (marks_bytes m)) && leb (le 8 (marks_bytes m)) 17) ≡ true
  unfolding marks_bytes bytes_of le
  first_ok =
      ap (λ (n : ℕ). leb 1 n && leb n 17) (le_bytes_of 8 (checkpoint_number m.checkpoint) [] (checkpoint_fits m.checkpoint)) ∙ checkpoint_ok m.checkpoint

  four_zeros : eqb (le 4 (drop 42 (marks_bytes m))) 0 ≡ true
  unfolding marks_bytes bytes_of le
  four_zeros = refl

  two_zeros : eqb (le 2 (drop 46 (marks_bytes m))) 0 ≡ true
  unfolding marks_bytes bytes_of le
  two_zeros = refl

pub marks_pass : (m : Marks) → marks_ok (marks_bytes m) ≡ true
unfolding marks_ok
marks_pass m = rw (marks_size m, numbers_ok m, truths_ok m, first_ok m, four_zeros m, two_zeros m)

-- Chains of iterators over the places of a table: what `(0..n).all(..)` answers, where the closure tests the record at each place.
-- Assumes nothing.
use Prim.Native.Nat.{ℕ, zero, suc, ◌+◌, ◌*◌}
use mathlib.Core.Path.{◌≡◌, refl, sym, ap, ◌∙◌}
use mathlib.Core.List.{List}
use mathlib.Core.Bool.{Bool, true, false}
use native.Mathlib.Nat.{sub-zero, mul-zero}
use native.Mathlib.Omega.{arith}
use lib.ListN.{drop}
use lib.Seq.{drop-drop}
use denote.Param.Members.{Mut}
use Rattle.std.specs.declared.ops.Range.{Range}
use Rattle.std.specs.declared.option.Option.{Option}
use Rattle.std.specs.Iterator.{YieldsThen}
use Rattle.std.specs.List.{FoldsTo, list_all, range_with_len}
use Rattle.std.specs.Fn.{Called}
use Rattle.std.specs.Option.{MatchOption}
use Rattle.std.proofs.iter.Yields.{nat_range_steps}
use Rattle.std.proofs.lemmas.Iterator.{YieldsList-from_range}
use Rattle.std.proofs.lemmas.Iterator.Search.{all_from_yields_List}
use Rattle.wire.specs.Table.{every}

-- one place further
pub drop_place : (w a : ℕ) (s : List ℕ) → drop w (drop (w * a) s) ≡ drop (w * (a + 1)) s
drop_place w a s = drop-drop w (w * a) s ∙ ap (λ (k : ℕ). drop k s) (omega arith)

module _ (f : List ℕ → Bool) (w : ℕ) (s : List ℕ) where
  every_from : (n a : ℕ) → every f w n (drop (w * a) s) ≡ list_all (λ i. f (drop (w * i) s)) (range_with_len a n)
  unfolding every
  every_from zero a = refl
  every_from (suc n) a = rw (drop_place w a s, every_from n (a + 1))

  -- `(0..n).all(|i| ..)`, by its clause `ran` and what a call of the closure answers
  pub every_from_all : {F : Type 0} {m : Mut F (ℕ × Unit {0}) Bool} {n : ℕ} {u : Range ℕ} {q : F} {r : Bool}
      → (xs : List ℕ) × (o : Option ℕ) × (j : F) × YieldsThen nat_range_steps (record { start = 0; end = n }) xs o u
      × FoldsTo (λ p x v. Called m p (x, tt) true v) q xs j × MatchOption o (r ≡ true) (λ x. (r ≡ false) × ((h : F) × Called m j (x, tt) false h))
      → ((i : ℕ) (b : Bool) (v : F) → Called m q (i, tt) b v → (v ≡ q) × (b ≡ f (drop (w * i) s))) → r ≡ every f w n s
  every_from_all {n = n} {u = u} {q = q} {r = r} ran test =
      all_from_yields_List (λ i. f (drop (w * i) s)) u q r ran (YieldsList-from_range 0 n n refl (sub-zero n)) test
      ∙ sym (rw mul-zero at (every_from n 0))

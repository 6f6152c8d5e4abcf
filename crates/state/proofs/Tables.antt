-- Two tables compared record by record: what `n == m && (0..n).all(..)` answers. And the flags that equality reads.
-- Assumes nothing.
use Prim.Native.Nat.{ℕ, zero, suc, ◌+◌, ◌*◌, ◌%◌, ◌≤◌}
use mathlib.Core.Path.{◌≡◌, refl, sym, ap, ◌∙◌}
use mathlib.Core.List.{List}
use mathlib.Core.Bool.{Bool, true, false}
use native.Mathlib.Nat.{sub-zero, mul-zero}
use native.Mathlib.Omega.{arith}
use borrow.Author.Tests.{ne_eqb}
use lib.Dec.{eqb}
use lib.ListN.{drop}
use denote.Param.Members.{Mut}
use Rattle.std.specs.declared.ops.Range.{Range}
use Rattle.std.specs.declared.option.Option.{Option}
use Rattle.std.specs.Iterator.{YieldsThen}
use Rattle.std.specs.List.{FoldsTo, list_all, range_with_len}
use Rattle.std.specs.Fn.{Called}
use Rattle.std.specs.Option.{MatchOption}
use Rattle.std.proofs.iter.Yields.{nat_range_steps}
use Rattle.std.proofs.lemmas.Iterator.{YieldsList-from_range}
use Rattle.std.proofs.lemmas.Iterator.Search.{all_from_yields_List}
use Rattle.wire.specs.Table.{records}
use Rattle.wire.proofs.Bools.{and_false}
use Rattle.wire.proofs.Chains.{drop_place}
use Rattle.records.specs.Record.{flag, flags_of, present}
use Rattle.records.specs.declared.order.Order.{Order}
use Rattle.state.specs.State.{same_lists, read_flags}

module _ {A : Type 0} (f : A → A → Bool) (g : List ℕ → A) (w : ℕ) where
  -- lists of different lengths differ
  lists_unlike : (n m : ℕ) (a b : List ℕ) → (n ≡ m → ⊥) → same_lists f (records g w n a) (records g w m b) ≡ false
  unfolding same_lists records
  lists_unlike zero zero a b h = absurd (h refl)
  lists_unlike zero (suc m) a b h = refl
  lists_unlike (suc n) zero a b h = refl
  lists_unlike (suc n) (suc m) a b h =
      rw (lists_unlike n m (drop w a) (drop w b) (λ e. h (ap suc e))) (and_false (f (g a) (g b)))

  pub lists_differ : (n m : ℕ) (a b : List ℕ) → (n ≡ m → ⊥) → eqb n m ≡ same_lists f (records g w n a) (records g w m b)
  lists_differ n m a b h = ne_eqb n m h ∙ sym (lists_unlike n m a b h)

  module _ (s t : List ℕ) where
    lists_from : (n a : ℕ) → same_lists f (records g w n (drop (w * a) s)) (records g w n (drop (w * a) t))
        ≡ list_all (λ i. f (g (drop (w * i) s)) (g (drop (w * i) t))) (range_with_len a n)
    unfolding same_lists records
    lists_from zero a = refl
    lists_from (suc n) a = rw (drop_place w a s, drop_place w a t, lists_from n (a + 1))

    -- `(0..n).all(|i| ..)`, by its clause `ran` and what a call of the closure answers
    pub lists_from_all : {F : Type 0} {m : Mut F (ℕ × Unit {0}) Bool} {n k : ℕ} {u : Range ℕ} {q : F} {r : Bool} → n ≡ k
        → (xs : List ℕ) × (o : Option ℕ) × (j : F) × YieldsThen nat_range_steps (record { start = 0; end = n }) xs o u
        × FoldsTo (λ p x v. Called m p (x, tt) true v) q xs j × MatchOption o (r ≡ true) (λ x. (r ≡ false) × ((h : F) × Called m j (x, tt) false h))
        → ((i : ℕ) (b : Bool) (v : F) → Called m q (i, tt) b v → (v ≡ q) × (b ≡ f (g (drop (w * i) s)) (g (drop (w * i) t))))
        → r ≡ same_lists f (records g w n s) (records g w k t)
    lists_from_all {n = n} {u = u} {q = q} {r = r} e ran test =
        all_from_yields_List (λ i. f (g (drop (w * i) s)) (g (drop (w * i) t))) u q r ran (YieldsList-from_range 0 n n refl (sub-zero n)) test
        ∙ sym (rw mul-zero at (lists_from n 0))
        ∙ ap (λ (l : ℕ). same_lists f (records g w n s) (records g w l t)) e

-- the flags below 8 are those that equality reads
low_flags : (n : ℕ) (d e : Bool) → n ≤ 7 → (n + flag d 8 + flag e 16) % 8 ≡ n
low_flags n true true h = omega (arith, h)
low_flags n true false h = omega (arith, h)
low_flags n false true h = omega (arith, h)
low_flags n false false h = omega (arith, h)

flag_most : (b : Bool) (k : ℕ) → flag b k ≤ k
flag_most true k = omega arith
flag_most false k = omega arith

pub read_flags_lem : (o : Order) → flags_of o % 8 ≡ read_flags o
read_flags_lem o =
    low_flags (read_flags o) (present o.client) (present o.reason)
    (omega (arith, flag_most o.submitted 1, flag_most o.filled 2, flag_most o.failed 4))

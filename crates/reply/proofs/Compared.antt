-- The result of a comparison: what the report's bytes are read as, how many kinds there are at most, and that a longer buffer gives the same.
-- About no function.
-- Assumes nothing.
use Prim.Native.Nat.{ℕ, ◌*◌, ◌≤◌}
use mathlib.Core.Path.{◌≡◌, refl}
use mathlib.Core.List.{List, []}
use mathlib.Core.Bool.{Bool, true, false}
use native.Mathlib.Omega.{arith}
use borrow.Author.Tests.{le-leb, leb-true}
use lib.Dec.{leb}
use lib.ListN.{length, length-map}
use Rattle.wire.specs.Le.{le}
use Rattle.wire.specs.Table.{records}
use Rattle.audit.specs.Verdict.{Verdict}
use Rattle.recovery.specs.declared.recover.Recovered.{Recovered}
use Rattle.compare.specs.Compare.{lent_report, lent_layout, done_if, refused_or, comparison, report_out}
use Rattle.compare.specs.declared.discrepancy.Discrepancy.{Discrepancy}
use Rattle.compare.specs.declared.Compared.{Compared}
use Rattle.compare.proofs.Reread.{kinds_held}
use Rattle.reply.specs.Result.{DeskResult, Refused, Told, by_comparison, compared_result}
use Rattle.std.specs.Prelude.{Ok, Err}
use Rattle.wire.specs.Layout.{Layout}

pub not_told : {A : Type 0} {n : ℕ} {v : Verdict} {r : Recovered} {ks : List ℕ} → Refused n ≡ Told v r ks → A
not_told h = absurd (grind arith)

-- the kinds of a result
abbrev pub kinds_of : DeskResult → List ℕ
kinds_of (Refused n) = []
kinds_of (Told v r ks) = ks

-- ---- a comparison that is done counts the report's discrepancies, whose kinds are read back
counted : (l : Layout) (b : Bool) (xs : List Discrepancy) (x : Compared) → refused_or l (done_if b xs) ≡ Ok x → x.count ≡ length xs
counted (Ok tt) true xs x e = cc
counted (Ok tt) false xs x e = cc
counted (Err _) b xs x e = cc

module _ (v : Verdict) (r : Recovered) (orders positions sheet : List ℕ) where
  abbrev xs : List Discrepancy
  xs = lent_report r.marks orders positions sheet

  abbrev by : Layout → Bool → DeskResult
  by l b = by_comparison v r xs (refused_or l (done_if b xs))

  pub told_back : (room : ℕ) (x : Compared) (out : List ℕ) → comparison r.marks orders positions sheet room ≡ Ok x
      → out ≡ report_out r.marks orders positions sheet room
      → Told v r (records (le 4) 48 x.count out) ≡ compared_result room v r orders positions sheet
  unfolding compared_result comparison report_out
  told_back room x out e o =
      rw (o, e, counted (lent_layout orders positions sheet) (leb (48 * length xs) room) xs x e, kinds_held room xs)

  -- ---- as many kinds as there is room for
  few : (room : ℕ) (l : Layout) (b : Bool) → leb (48 * length xs) room ≡ b → 48 * length (kinds_of (by l b)) ≤ room
  few room (Ok tt) true e = rw length-map (leb-true (48 * length xs) room e)
  few room (Ok tt) false e = omega arith
  few room (Err _) b e = omega arith

  pub compared_few : (room : ℕ) → 48 * length (kinds_of (compared_result room v r orders positions sheet)) ≤ room
  unfolding compared_result comparison
  compared_few room = few room (lent_layout orders positions sheet) (leb (48 * length xs) room) refl

  -- ---- more room
  module _ (w : Verdict) (q : Recovered) (ks : List ℕ) where
    same : (l : Layout) (a b : Bool) → (a ≡ true → b ≡ true) → by l a ≡ Told w q ks → by l b ≡ Told w q ks
    same (Ok tt) true b f h = rw (f refl) h
    same (Ok tt) false b f h = not_told h
    same (Err e) a b f h = h

    pub compared_longer : (room longer : ℕ) → room ≤ longer → compared_result room v r orders positions sheet ≡ Told w q ks
        → compared_result longer v r orders positions sheet ≡ Told w q ks
    unfolding compared_result comparison
    compared_longer room longer h =
        let n = 48 * length xs in
        same (lent_layout orders positions sheet) (leb n room) (leb n longer) (λ e. le-leb n longer (omega (arith, leb-true n room e)))

-- Decimal digits, written from the last one back. About no function.
-- Assumes nothing.
use Prim.Native.Nat.{ℕ, zero, suc, ◌+◌, ◌*◌, ◌-◌, ◌^◌, ◌/◌, ◌%◌, ◌≤◌, ◌<◌}
use mathlib.Core.Path.{◌≡◌, refl}
use mathlib.Core.Bool.{Bool, true, false, cond}
use mathlib.Core.List.{List, [], ◌∷◌, ◌++◌}
use native.Mathlib.Nat.{not-suc-le-zero, le_of_suc-le-suc, pow-succ', mul_comm, div-lt_iff_lt-mul}
use native.Mathlib.Omega.{arith}
use borrow.Author.Tests.{le-ltb, lt-ltb}
use lib.Dec.{ltb, lit<}
use lib.ListN.{length, drop, set, length-append}
use lib.Seq.{append_snoc}
use Rattle.lines.specs.Lines.{digits}

-- the last digit after the others, or alone
digits_more : (f n : ℕ) → 10 ≤ n → digits (suc f) n ≡ digits f (n / 10) ++ ((48 + n % 10) ∷ [])
unfolding digits
digits_more f n h = rw (le-ltb n 10 h)

digits_one : (f n : ℕ) → n < 10 → digits (suc f) n ≡ (48 + n) ∷ []
unfolding digits
digits_one f n h = rw (lt-ltb n 10 h)

-- how many they are
choice : (b : Bool) (s t : List ℕ) (k : ℕ) → length s ≤ k → length t ≤ k → length (cond b s t) ≤ k
choice true s t k p q = p
choice false s t k p q = q

pub digits_within : (f n : ℕ) → length (digits f n) ≤ f
unfolding digits
digits_within zero n = omega arith
digits_within (suc f) n =
    choice (ltb n 10) ((48 + n) ∷ []) (digits f (n / 10) ++ ((48 + n % 10) ∷ [])) (suc f) (omega arith)
    (rw length-append (omega (arith, digits_within f (n / 10))))

-- a number of two digits or more has two places or more, and its front one less
pub two_places : (f n : ℕ) → 10 ≤ n → n < 10 ^ f → 2 ≤ f
two_places zero n p h = absurd (omega arith)
two_places (suc zero) n p h = absurd (omega arith)
two_places (suc (suc f)) n p h = omega arith

pub one_less : (f n : ℕ) → 0 < f → n < 10 ^ f → n / 10 < 10 ^ (f - 1)
one_less zero n p h = absurd (not-suc-le-zero p)
one_less (suc f) n p h =
    let e : suc f - 1 ≡ f = omega arith in
    let k : n < 10 ^ f * 10 = rw (pow-succ', mul_comm) at h in
    rw e ((div-lt_iff_lt-mul {k = 10} (lit< tt)).1 k)

-- a byte stored before the rest
drop_set_here : (d : List ℕ) (i x : ℕ) → i < length d → drop i (set d i x) ≡ x ∷ drop (suc i) d
drop_set_here [] i x h = absurd (not-suc-le-zero h)
drop_set_here (y ∷ d) zero x h = refl
drop_set_here (y ∷ d) (suc i) x h = drop_set_here d i x (le_of_suc-le-suc h)

-- one turn of the loop, and what comes after it
pub digits_turn : (d : List ℕ) (f n : ℕ) → 0 < f → f ≤ length d → 10 ≤ n
    → digits f n ++ drop f d ≡ digits (f - 1) (n / 10) ++ drop (f - 1) (set d (f - 1) (48 + n % 10))
digits_turn d zero n p l h = absurd (not-suc-le-zero p)
digits_turn d (suc f) n p l h =
    let e : suc f - 1 ≡ f = omega arith in
    rw (e, digits_more f n h, drop_set_here d f (48 + n % 10) l) (append_snoc (digits f (n / 10)) (48 + n % 10) (drop (suc f) d))

pub digits_last : (d : List ℕ) (f n : ℕ) → 0 < f → f ≤ length d → n < 10 → digits f n ++ drop f d ≡ drop (f - 1) (set d (f - 1) (48 + n))
digits_last d zero n p l h = absurd (not-suc-le-zero p)
digits_last d (suc f) n p l h =
    let e : suc f - 1 ≡ f = omega arith in
    rw (e, digits_one f n h, drop_set_here d f (48 + n) l)

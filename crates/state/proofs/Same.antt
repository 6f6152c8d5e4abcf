-- What `==` says of the parts of a state, in the definitions' words.
-- Assumes nothing.
use borrow.Author.Rules.{rules}
use Prim.Native.Nat.{ℕ, ◌-◌}
use denote.Enum.Bare.{sameb, same_true, true_same}
use lib.ListN.{get_or}
use Rattle.checkpoint.specs.Checkpoint.{checkpoint_number, checkpoints, same_checkpoint}
use Rattle.checkpoint.specs.declared.Checkpoint.{Checkpoint}
use Rattle.checkpoint.specs.declared.Checkpoint.TheVariants.{RunStarted, PositionsIntent, PositionsFetched, PositionsResult, DiffComputed, RiskCheckPassed, OrderIntent, OrderSubmitted, OrderFailed, OrderFilled, QuotesIntent, QuotesResult, AccountSummaryIntent, AccountSummaryResult, CancelIntent, CancelResult, RunCompleted}
use Rattle.checkpoint.specs.contracts.Checkpoint.{the_type}
use mathlib.Core.Path.{◌≡◌, refl, sym, ap, ◌∙◌}
use mathlib.Core.List.{List, [], ◌∷◌}
use mathlib.Core.Bool.{Bool, true, false, ◌&&◌, beq}
use native.Mathlib.Omega.{arith}
use lib.Dec.{eqb}
use lib.IntN.{ℤ}
use lib.Pointwise.{pointwise}
use mir.Syntax.{w32, w64}
use mir.Val.{SFits, to_z, of_z}
use mir.ValLaws.{to_z-of_z}
use Rattle.std.specs.Prelude.{Some, None, Option}
use Rattle.std.specs.Option.{option_eq}
use Rattle.std.specs.Ordering.{int_eq}
use Rattle.std.proofs.lemmas.Bool.Decides.{same_from_decides, Decides-eqb, Decides-int_eq, Decides-like}
use Rattle.wire.specs.Le.{same_bytes}
use Rattle.marks.specs.declared.Pair.{Pair}
use Rattle.state.specs.State.{same_truth, same_number, same_int, same_pair}

-- checkpoints of one number are one
named_back : (k : Checkpoint) → get_or checkpoints (checkpoint_number k - 1) RunStarted ≡ k
unfolding checkpoints
named_back RunStarted = refl
named_back PositionsIntent = refl
named_back PositionsFetched = refl
named_back PositionsResult = refl
named_back DiffComputed = refl
named_back RiskCheckPassed = refl
named_back OrderIntent = refl
named_back OrderSubmitted = refl
named_back OrderFailed = refl
named_back OrderFilled = refl
named_back QuotesIntent = refl
named_back QuotesResult = refl
named_back AccountSummaryIntent = refl
named_back AccountSummaryResult = refl
named_back CancelIntent = refl
named_back CancelResult = refl
named_back RunCompleted = refl

pub checkpoint_is : (a b : Checkpoint) → sameb the_type a b ≡ same_checkpoint a b
checkpoint_is a b =
    same_from_decides (sameb the_type a b) (same_checkpoint a b) (same_true the_type (search rules) a b, true_same the_type a b)
    (Decides-like (same_checkpoint a b) (λ e. sym (named_back a) ∙ ap (λ (n : ℕ). get_or checkpoints (n - 1) RunStarted) e ∙ named_back b) (λ e. ap checkpoint_number e)
    (Decides-eqb (checkpoint_number a) (checkpoint_number b)))

pub truth_is : (a b : Bool) → beq a b ≡ same_truth a b
truth_is true true = refl
truth_is true false = refl
truth_is false true = refl
truth_is false false = refl

number_is : (m n : Option ℕ) → option_eq eqb m n ≡ same_number m n
number_is (Some m) (Some n) = refl
number_is (Some m) None = refl
number_is None (Some n) = refl
number_is None None = refl

pub int_is : (x y : ℤ) → SFits w64 x → SFits w64 y → int_eq x y ≡ same_int x y
int_is x y f g =
    same_from_decides (int_eq x y) (same_int x y) (Decides-int_eq x y)
    (Decides-like (eqb (of_z w64 x) (of_z w64 y)) (λ e. sym (to_z-of_z w64 x f) ∙ ap (to_z w64) e ∙ to_z-of_z w64 y g) (λ e. ap (of_z w64) e) (Decides-eqb _ _))

-- an i32 is compared as an i64
pub id_is : (x y : ℤ) → SFits w32 x → SFits w32 y → eqb (of_z w32 x) (of_z w32 y) ≡ same_int x y
id_is x y f g =
    let wide : (z : ℤ) → SFits w32 z → SFits w64 z = λ z h. record { sfits = omega (arith, h.sfits) } in
    same_from_decides (eqb (of_z w32 x) (of_z w32 y)) (same_int x y)
    (Decides-like (eqb (of_z w32 x) (of_z w32 y)) (λ e. sym (to_z-of_z w32 x f) ∙ ap (to_z w32) e ∙ to_z-of_z w32 y g) (λ e. ap (of_z w32) e) (Decides-eqb _ _))
    (Decides-like (eqb (of_z w64 x) (of_z w64 y)) (λ e. sym (to_z-of_z w64 x (wide x f)) ∙ ap (to_z w64) e ∙ to_z-of_z w64 y (wide y g)) (λ e. ap (of_z w64) e) (Decides-eqb _ _))

pub int_same : (x : ℤ) → int_eq x x ≡ true
int_same x = (Decides-int_eq x x).1 refl

pub bytes_are : (a b : List ℕ) → pointwise eqb a b ≡ same_bytes a b
unfolding same_bytes
bytes_are [] [] = refl
bytes_are [] (y ∷ ys) = refl
bytes_are (x ∷ xs) [] = refl
bytes_are (x ∷ xs) (y ∷ ys) = ap (λ (b : Bool). eqb x y && b) (bytes_are xs ys)

pub three : (a b c : Bool) → (a && (b && c)) ≡ (a && b && c)
three false b c = refl
three true false c = refl
three true true c = refl

four : (a b c d : Bool) → (a && (b && (c && d))) ≡ (a && b && c && d)
four false b c d = refl
four true false c d = refl
four true true false d = refl
four true true true d = refl

pub pair_is : (p q : Pair)
    → (beq p.intent q.intent && (beq p.result q.result && (option_eq eqb p.intended q.intended && option_eq eqb p.resulted q.resulted))) ≡ same_pair p q
unfolding same_pair
pair_is p q =
    rw (truth_is p.intent q.intent, truth_is p.result q.result, number_is p.intended q.intended, number_is p.resulted q.resulted)
    (four (same_truth p.intent q.intent) (same_truth p.result q.result) (same_number p.intended q.intended) (same_number p.resulted q.resulted))

-- the test of the time is true
pub nine : (a b c d e f g h i : Bool) → (a && (b && (true && (c && (d && (e && (f && (g && (h && i))))))))) ≡ (a && b && c && d && e && f && g && h && i)
nine false b c d e f g h i = refl
nine true false c d e f g h i = refl
nine true true false d e f g h i = refl
nine true true true false e f g h i = refl
nine true true true true false f g h i = refl
nine true true true true true false g h i = refl
nine true true true true true true false h i = refl
nine true true true true true true true false i = refl
nine true true true true true true true true i = refl

-- What the answers of a round's three calls say of what they were given, and of the next log. About no function.
-- Assumes nothing.
use Prim.Native.Nat.{ℕ, ◌+◌, ◌-◌}
use mathlib.Core.Path.{◌≡◌, refl, sym, ap, ◌∙◌}
use mathlib.Core.List.{List, []}
use mathlib.Core.Bool.{Bool, true, false, cond, true≢false, false≢true}
use native.Mathlib.Omega.{arith}
use lib.Dec.{ltb}
use lib.ListN.{length, take, replicate}
use lib.Seq.{take_at}
use Rattle.wire.specs.Table.{padded}
use Rattle.wire.specs.Layout.{both_of}
use Rattle.wire.proofs.Layouts.{both_sound}
use Rattle.book.specs.Layout.{book_layout, event_count, row_count}
use Rattle.book.proofs.Sound.{sound_size}
use Rattle.recovery.specs.Recover.{State, done_if, refused_or, recovery}
use Rattle.recovery.specs.declared.recover.Recovered.{Recovered}
use Rattle.intents.specs.Intents.{reconciles_if, reconciling}
use Rattle.intents.specs.declared.Reconciled.{Reconciled}
use Rattle.join.specs.Join.{joined, joined_length, too_large, joins_if, joining, join_bytes_if, join_out}
use Rattle.join.proofs.Joined.{joined_size}
use Rattle.rounds.specs.Rounds.{Round, after_join, join_round, lent_orders, written_addendum, after_reconciling, reconcile_round, after_recovery, round_of, next, done}
use Rattle.std.specs.Prelude.{Ok, Err, Result}
use Rattle.wire.specs.declared.refusal.Refusal.{Refusal}
use Rattle.wire.specs.Layout.{Layout}

pub by_bool {ℓ} : {X : Type ℓ} (b : Bool) → (b ≡ true → X) → (b ≡ false → X) → X
by_bool true f g = f refl
by_bool false f g = g refl

-- what is read from the front of a buffer
pub take_padded : (n : ℕ) (s : List ℕ) → take (length s) (padded n s) ≡ s
unfolding padded
take_padded n s = take_at s (replicate (n - length s) 0) (length s) refl

-- ---- the first call
pub done_parts : (l : Layout) (b : Bool) (st : State) (x : Recovered) → refused_or l (done_if b st) ≡ Ok x → (l ≡ (Ok tt)) × (b ≡ true)
done_parts (Ok tt) true st x h = (refl, refl)
done_parts (Ok tt) false st x h = absurd (grind arith)
done_parts (Err e) b st x h = absurd (grind arith)

-- ---- the second call
pub reconciles_done : (l : Layout) (b : Bool) (a : List ℕ) (n m room : ℕ) (y : Reconciled) → reconciles_if l b a n m room ≡ Ok y
    → (l ≡ (Ok tt)) × (b ≡ true) × (too_large (length a) n 0 ≡ false) × (ltb room (length a) ≡ false) × (y.length ≡ length a)
reconciles_done (Err e) b a n m room y h = absurd (grind arith)
reconciles_done (Ok tt) false a n m room y h = absurd (grind arith)
reconciles_done (Ok tt) true a n m room y h = by (too_large (length a) n 0) (ltb room (length a)) refl refl h
  where
    by : (t u : Bool) → too_large (length a) n 0 ≡ t → ltb room (length a) ≡ u
        → cond t (Err Refusal.Oversize) (cond u (Err Refusal.NoRoom) (Ok (record { entries = n; unreached = m; length = length a }))) ≡ Ok y
        → ◌≡◌ {A = Layout} (Ok tt) (Ok tt) × (true ≡ true) × (too_large (length a) n 0 ≡ false) × (ltb room (length a) ≡ false) × (y.length ≡ length a)
    by true u p q h = absurd (grind arith)
    by false true p q h = absurd (grind arith)
    by false false p q h =
        let e : record { entries = n; unreached = m; length = length a } ≡ y = cc in
        (refl, refl, p, q, sym (ap (λ (z : Reconciled). z.length) e))

pub never_broken : (l : Layout) (y : Reconciled) (n : ℕ) → reconciles_if (both_of l (Err Refusal.Broken)) true [] 0 0 n ≡ Ok y → ⊥
never_broken (Ok tt) y n h = grind arith
never_broken (Err Refusal.Oversize) y n h = grind arith
never_broken (Err e) y n h = grind arith

-- ---- the third call, on a sound log
pub record Joinable (r : Round) (log b : List ℕ) : Type 0 where
  pub sound : book_layout b ≡ (Ok tt)
  pub count : ltb (event_count b) r.k ≡ false
  pub size : too_large (joined_length log b r.k) (event_count log + r.k) (row_count log + row_count b) ≡ false

pub record Third (r : Round) (log b : List ℕ) : Type 0 where
  pub joinable : Joinable r log b
  pub room : ltb r.joined (joined_length log b r.k) ≡ false

record Joined (v : (Result ℕ Refusal)) : Type 0 where
  given : ℕ
  is : v ≡ Ok given

joins : (r : Round) (log b : List ℕ) (v : (Result ℕ Refusal)) → done (after_join r log b v).answer ≡ true → Joined v
joins r log b (Ok n) h = record { given = n; is = refl }
joins r log b (Err e) h = absurd (false≢true h)

joins_done : (l : Layout) (a b : List ℕ) (k room n : ℕ) → joins_if l a b k room ≡ Ok n
    → (l ≡ (Ok tt)) × (ltb (event_count b) k ≡ false) × (too_large (joined_length a b k) (event_count a + k) (row_count a + row_count b) ≡ false)
    × (ltb room (joined_length a b k) ≡ false)
joins_done (Err e) a b k room n h = absurd (grind arith)
joins_done (Ok tt) a b k room n h =
    by (ltb (event_count b) k) (too_large (joined_length a b k) (event_count a + k) (row_count a + row_count b)) (ltb room (joined_length a b k)) refl refl refl h
  where
    by : (t u v : Bool) → ltb (event_count b) k ≡ t → too_large (joined_length a b k) (event_count a + k) (row_count a + row_count b) ≡ u
        → ltb room (joined_length a b k) ≡ v → cond t (Err Refusal.TooMany) (cond u (Err Refusal.Oversize) (cond v (Err Refusal.NoRoom) (Ok (joined_length a b k)))) ≡ Ok n
        → ◌≡◌ {A = Layout} (Ok tt) (Ok tt) × (ltb (event_count b) k ≡ false) × (too_large (joined_length a b k) (event_count a + k) (row_count a + row_count b) ≡ false)
        × (ltb room (joined_length a b k) ≡ false)
    by true u v p q w h = absurd (grind arith)
    by false true v p q w h = absurd (grind arith)
    by false false true p q w h = absurd (grind arith)
    by false false false p q w h = (refl, p, q, w)

pub third_passed : (r : Round) (log b : List ℕ) → book_layout log ≡ (Ok tt) → done (join_round r log b).answer ≡ true → Third r log b
unfolding join_round joining
third_passed r log b s h =
    let v = joins r log b (joining log b r.k r.joined) h in
    let p = joins_done (both_of (book_layout log) (book_layout b)) log b r.k r.joined v.given v.is in
    record { joinable = record { sound = (both_sound (book_layout log) (book_layout b) p.0).1; count = p.1; size = p.2 }; room = p.3 }

pub joining_is : (r : Round) (log b : List ℕ) → book_layout log ≡ (Ok tt) → Third r log b → joining log b r.k r.joined ≡ Ok (joined_length log b r.k)
unfolding joining
joining_is r log b s t = rw (s, t.joinable.sound, t.joinable.count, t.joinable.size, t.room)

-- the length that join says
pub third_length : (r : Round) (log b : List ℕ) → book_layout log ≡ (Ok tt) → Third r log b → length (joined log b r.k) ≡ joined_length log b r.k
third_length r log b s t = joined_size log b r.k (sound_size log s) (sound_size b t.joinable.sound)

-- join's result is the next log
pub third_log : (r : Round) (log b : List ℕ) → book_layout log ≡ (Ok tt) → Third r log b → (join_round r log b).log ≡ joined log b r.k
unfolding join_round join_out
third_log r log b s t =
    ap (λ (v : (Result ℕ Refusal)). (after_join r log b v).log) (joining_is r log b s t)
    ∙ ap (λ (v : (Result ℕ Refusal)). take (joined_length log b r.k) (join_bytes_if v r.joined (joined log b r.k))) (joining_is r log b s t)
    ∙ ap (λ (n : ℕ). take n (padded r.joined (joined log b r.k))) (sym (third_length r log b s t)) ∙ take_padded r.joined (joined log b r.k)

-- and the addendum is what was to be joined
pub third_addendum : (r : Round) (log b : List ℕ) → (join_round r log b).addendum ≡ b
unfolding join_round
third_addendum r log b = by (joining log b r.k r.joined)
  where
    by : (v : (Result ℕ Refusal)) → (after_join r log b v).addendum ≡ b
    by (Ok n) = refl
    by (Err e) = refl

-- ---- a refused round leaves the log as it was
join_refused : (r : Round) (log b : List ℕ) (v : (Result ℕ Refusal)) → done (after_join r log b v).answer ≡ false → (after_join r log b v).log ≡ log
join_refused r log b (Ok n) h = absurd (true≢false h)
join_refused r log b (Err e) h = refl

reconciling_refused : (r : Round) (log : List ℕ) (x : Recovered) (v : (Result Reconciled Refusal)) → done (after_reconciling r log x v).answer ≡ false
    → (after_reconciling r log x v).log ≡ log
unfolding join_round
reconciling_refused r log x (Ok y) h =
    join_refused r log (written_addendum r log x y) (joining log (written_addendum r log x y) r.k r.joined) h
reconciling_refused r log x (Err e) h = refl

recovery_refused : (r : Round) (log : List ℕ) (v : (Result Recovered Refusal)) → done (after_recovery r log v).answer ≡ false → (after_recovery r log v).log ≡ log
unfolding reconcile_round
recovery_refused r log (Ok x) h =
    reconciling_refused r log x (reconciling x.marks (lent_orders r log x) r.sheet r.queries r.time r.addendum) h
recovery_refused r log (Err e) h = refl

pub round_refused : (r : Round) (log : List ℕ) → done (round_of r log).answer ≡ false → next r log ≡ log
unfolding round_of
round_refused r log h = recovery_refused r log (recovery log r.now r.orders r.positions) h

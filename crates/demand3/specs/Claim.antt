-- What rounds do to every log, claimed once: `Claim` is the whole of it, premises and conclusions, as one type. `demand3` of proofs/Theorem.antt proves it.
-- Assumes nothing.
use Rattle.std.specs.Prelude.{ℕ, ◌<◌, ◌≡◌, List, [], ◌∷◌, false, ℤ}
use Rattle.wire.specs.Table.{encoded}
use Rattle.book.specs.Layout.{book_layout}
use Rattle.book.specs.Time.{time_layout}
use Rattle.sheet.specs.Sheet.{sheet_layout, sheet_orders, orders_failed}
use Rattle.sheet.specs.declared.BrokerOrderStatus.{BrokerOrderStatus}
use Rattle.records.specs.Record.{order_bytes, position_bytes}
use Rattle.recovery.specs.Recover.{State, state_of}
use Rattle.state.specs.State.{states_equal}
use Rattle.intents.specs.Intents.{chosen}
use Rattle.rounds.specs.Rounds.{Round, round_of}
use Rattle.demand3.specs.Demand3.{recovered, NoRepeat, Small, OneList, Uncut, Room, same_recovered, Demand3}
use Rattle.std.specs.Prelude.{Ok, Err, Result, Bool}
use Rattle.wire.specs.declared.refusal.Refusal.{Refusal}

-- a log is a list of bytes
abbrev pub AreBytes : List ℕ → Type 0
AreBytes [] = Unit
AreBytes (b ∷ s) = (b < 256) × AreBytes s

-- ---- the premises
pub record Premises (broker : List BrokerOrderStatus) (rs : List Round) (log : List ℕ) : Type 0 where
  -- a well-formed log
  pub bytes : AreBytes log
  pub formed : book_layout log ≡ (Ok tt)
  -- whose recovered orders repeat no symbol
  pub apart : NoRepeat (recovered log).orders
  -- a broker whose answered queries all show one list, its first order with quantity remaining, if any, numbered at most 2^63 - 1
  pub one : OneList broker rs log
  pub small : Small (chosen broker)

-- ---- a round that `ends` of `Demand3` compares with
pub record SomeUncut (sheet log : List ℕ) : Type 0 where
  pub round : Round
  pub uncut : Uncut (sheet_orders sheet) log round
  pub room : Room round log

-- ---- what `states_equal` answers of two logs, each with the marks and the records of a state
abbrev pub equal_answer : List ℕ → State → List ℕ → State → Result Bool Refusal
equal_answer a x b y =
    states_equal a x.marks (encoded order_bytes x.orders) (encoded position_bytes x.positions)
    b y.marks (encoded order_bytes y.orders) (encoded position_bytes y.positions)

-- ---- the claim
pub record Claim : Type 0 where
  -- of every list of rounds
  pub rounds : (broker : List BrokerOrderStatus) (rs : List Round) (log : List ℕ) → Premises broker rs log → Demand3 broker rs log
  -- with room no round is refused by 3
  pub room : (r : Round) (log : List ℕ) → AreBytes log → book_layout log ≡ (Ok tt) → time_layout r.now ≡ (Ok tt) → Room r log
      → (round_of r log).answer ≡ (Err Refusal.NoRoom) → ⊥
  -- for every log and every sound sheet that has not failed there is an uncut round with room
  pub uncut : (sheet log : List ℕ) → sheet_layout sheet ≡ (Ok tt) → orders_failed sheet ≡ false → SomeUncut sheet log
  -- equality of recovered states is what `states_equal` answers, whenever the two were recovered
  pub equal : (a b : List ℕ) → AreBytes a → AreBytes b → book_layout a ≡ (Ok tt) → book_layout b ≡ (Ok tt) → (now then : ℤ)
      → equal_answer a (state_of a now) b (state_of b then) ≡ Ok (same_recovered a b)

-- What is known of a recovered order and position, and of the event or row that gives it: a symbol that a text spells, numbers within their types,
-- references to texts of the book. About no function.
-- Assumes nothing.
use Prim.Native.Nat.{ℕ, ◌+◌, ◌≤◌}
use mathlib.Core.List.{List}
use mir.Syntax.{w64}
use mir.Val.{SFits}
use Rattle.wire.proofs.Written.{Bytes}
use Rattle.wire.proofs.Records.{Each}
use Rattle.cell.specs.declared.TextRef.{TextRef}
use Rattle.records.specs.declared.order.Order.{Order}
use Rattle.records.specs.declared.position.Position.{Position}
use Rattle.records.proofs.Orders.{OrderFits, StrFits}
use Rattle.effects.specs.Event.{Row, Event}
use Rattle.effects.specs.Step.{whole_or}
use Rattle.recovery.specs.Recover.{State}
use Rattle.sound_state.proofs.Spelling.{Spelt}
use Rattle.std.specs.Prelude.{Option, Some, None}

-- ---- references within a text of n bytes
abbrev pub RefIn : ℕ → TextRef → Type 0
RefIn n r = r.first + r.len ≤ n

abbrev pub StrIn : ℕ → Option TextRef → Type 0
StrIn n (Some r) = RefIn n r
StrIn n None = Unit

pub record RefsIn (n : ℕ) (o : Order) : Type 0 where
  pub action : RefIn n o.action
  pub client : StrIn n o.client
  pub reason : StrIn n o.reason

-- ---- what is known of an order, where the book's text has n bytes
pub record Good (n : ℕ) (o : Order) : Type 0 where
  pub symbol : Spelt o.symbol
  pub fits : OrderFits o
  pub refs : RefsIn n o

-- and of a position
pub record GoodPosition (p : Position) : Type 0 where
  pub symbol : Spelt p.symbol
  pub quantity : SFits w64 p.quantity
  pub cost : SFits w64 p.cost

-- of a state
pub record GoodState (n : ℕ) (st : State) : Type 0 where
  pub orders : Each (Good n) st.orders
  pub positions : Each GoodPosition st.positions

-- of what an event or a row gives
pub record GoodStr (n : ℕ) (a : (Option TextRef)) : Type 0 where
  pub fits : StrFits a
  pub within : StrIn n a

abbrev pub TextBytes : Option (List ℕ) → Type 0
TextBytes None = Unit
TextBytes (Some t) = Bytes t

pub record GoodRow (n : ℕ) (r : Row) : Type 0 where
  pub symbol : TextBytes r.symbol
  pub action : GoodStr n r.action
  pub amount : SFits w64 (whole_or r.amount)

abbrev pub GoodRows : ℕ → Option (List Row) → Type 0
GoodRows n None = Unit
GoodRows n (Some rs) = Each (GoodRow n) rs

pub record GoodEvent (n : ℕ) (e : Event) : Type 0 where
  pub symbol : TextBytes e.symbol
  pub action : GoodStr n e.action
  pub client : GoodStr n e.client
  pub shares : SFits w64 (whole_or e.shares)
  pub reason : GoodStr n e.reason
  pub positions : GoodRows n e.positions
  pub orders : GoodRows n e.orders

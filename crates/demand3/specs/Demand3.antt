-- What a list of rounds does to a log: the words of the claim, and its conclusions. Claim.antt has the premises and the claim.
-- Assumes nothing.
use Rattle.types.specs.declared.order.OrderId.{OrderId}
use Rattle.checkpoint.specs.declared.Checkpoint.{Checkpoint}
use Rattle.std.specs.Prelude.{Option}
use Rattle.std.specs.Prelude.{ℕ, suc, ◌^◌, ◌≤◌, ◌<◌, ◌+◌, ◌≡◌, List, [], ◌∷◌, Bool, true, false, ◌&&◌, ltb, pos, length, take, drop, replicate}
use Rattle.symbol.specs.Symbol.{same_symbol, symbol_is}
use Rattle.symbol.specs.declared.Symbol.{Symbol}
use Rattle.book.specs.Layout.{book_layout, event_count}
use Rattle.book.specs.Event.{text_of}
use Rattle.marks.specs.Marks.{number_or_zero}
use Rattle.sheet.specs.Sheet.{sheet_layout, sheet_orders, orders_failed}
use Rattle.sheet.specs.declared.BrokerOrderStatus.{BrokerOrderStatus}
use Rattle.records.specs.Search.{is_intent, count_where, any_where}
use Rattle.records.specs.declared.order.Order.{Order}
use Rattle.effects.specs.Event.{Event, events_of}
use Rattle.audit.specs.Verdict.{book_verdict}
use Rattle.book.specs.Time.{time_layout}
use Rattle.recovery.specs.Recover.{State, first_state, roomy, state_of}
use Rattle.state.specs.State.{same_state}
use Rattle.intents.specs.Intents.{reached, chosen, addendum}
use Rattle.join.specs.Join.{joined_length}
use Rattle.rounds.specs.Rounds.{Round, round_of, next, run, done}
use Rattle.std.specs.Prelude.{Some, None, Ok}

-- ---- recovered, with room for all records; the time is left out of every comparison below
abbrev pub recovered : List ℕ → State
recovered log = state_of log (pos 0)

-- open intents: the intents among a log's recovered orders
abbrev pub open_intents : List ℕ → ℕ
open_intents log = count_where is_intent (recovered log).orders

-- recovered orders repeat no symbol
abbrev pub has_symbol : Symbol → Order → Bool
has_symbol y o = same_symbol o.symbol y

abbrev pub NoRepeat : List Order → Type 0
NoRepeat [] = Unit
NoRepeat (o ∷ os) = (any_where (has_symbol o.symbol) os ≡ false) × NoRepeat os

-- the last checkpoint's number, read as 0 if unnumbered or absent
abbrev pub number_after : Option Checkpoint → Option ℕ → ℕ → ℕ
number_after None number n = n
number_after (Some k) number n = number_or_zero number

unfoldable pub last_number : ℕ → List Event → ℕ
last_number n [] = n
last_number n (e ∷ es) = last_number (number_after e.checkpoint e.number n) es

-- ---- entries: the events added to the first log; an intent's entry is an added event with its symbol
abbrev pub added : List ℕ → List ℕ → List Event
added first log = drop (length (events_of first)) (events_of log)

abbrev pub is_text : Symbol → Option (List ℕ) → Bool
is_text y None = false
is_text y (Some t) = symbol_is y t

abbrev pub is_entry : Symbol → Event → Bool
is_entry y e = is_text y e.symbol

-- each of these events is the entry of an intent among the orders
abbrev pub of_intent : List Order → Event → Bool
of_intent os e = any_where (λ (o : Order). is_intent o && is_entry o.symbol e) os

abbrev pub OfIntents : List Order → List Event → Type 0
OfIntents os [] = Unit
OfIntents os (e ∷ es) = (of_intent os e ≡ true) × OfIntents os es

-- numbers that follow n without a gap
abbrev pub Follow : ℕ → List Event → Type 0
Follow n [] = Unit
Follow n (e ∷ es) = (e.number ≡ Some (suc n)) × Follow (suc n) es

-- ---- a round: the symbols of the open intents whose queries were answered, and the addendum B of their entries
abbrev pub reached_by : Round → List ℕ → List Symbol
reached_by r log = reached (orders_failed r.sheet) (recovered log).orders r.queries

abbrev pub addendum_of : Round → List ℕ → List ℕ
addendum_of r log = addendum (chosen (sheet_orders r.sheet)) r.time (recovered log).marks.number (reached_by r log)

-- it is not refused; it is written whole; an open intent's query was answered
abbrev pub passes : Round → List ℕ → Bool
passes r log = done (round_of r log).answer

abbrev pub Whole : Round → List ℕ → Type 0
Whole r log = r.k ≡ event_count (round_of r log).addendum

abbrev pub answered : Round → List ℕ → Bool
answered r log = ltb 0 (length (reached_by r log))

-- ---- the broker: answered queries all show one list, its first order with quantity remaining, if any, numbered at most 2^63 - 1
abbrev pub Small : Option OrderId → Type 0
Small (Some id) = id.0 < 2 ^ 63
Small None = Unit

abbrev pub OneList : List BrokerOrderStatus → List Round → List ℕ → Type 0
OneList list [] log = Unit
OneList list (r ∷ rs) log = (passes r log ≡ true → answered r log ≡ true → sheet_orders r.sheet ≡ list) × OneList list rs (next r log)

-- each round written whole in which an open intent's query was answered left fewer open
abbrev pub Fewer : List Round → List ℕ → Type 0
Fewer [] log = Unit
Fewer (r ∷ rs) log =
    (passes r log ≡ true → Whole r log → answered r log ≡ true → open_intents (next r log) < open_intents log) × Fewer rs (next r log)

-- ---- the uncut round joins all of B, with valid times, the broker's list and a 0 for each intent; all of it is said of what the round is given
pub record Uncut (broker : List BrokerOrderStatus) (log : List ℕ) (u : Round) : Type 0 where
  pub sheet : sheet_layout u.sheet ≡ (Ok tt)
  pub list : sheet_orders u.sheet ≡ broker
  pub up : orders_failed u.sheet ≡ false
  pub zeros : u.queries ≡ replicate (open_intents log) 0
  pub now : time_layout u.now ≡ (Ok tt)
  pub time : time_layout u.time ≡ (Ok tt)
  pub whole : u.k ≡ open_intents log

-- with room: for all records after each event, for B, and for the log with the first k of B's entries
pub record Room (u : Round) (log : List ℕ) : Type 0 where
  pub records : roomy u.orders u.positions (first_state u.now) (events_of log) ≡ true
  pub addendum : length (addendum_of u log) ≤ u.addendum
  pub joined : joined_length log (addendum_of u log) u.k ≤ u.joined

-- two logs recover to equal states
unfoldable pub same_recovered : List ℕ → List ℕ → Bool
unfolding same_state
same_recovered a b =
    same_state (text_of a) (text_of b) (recovered a).marks (recovered b).marks (recovered a).orders (recovered b).orders
    (recovered a).positions (recovered b).positions

-- ---- the conclusions, where a list of rounds began on `log` and ended
pub record Demand3 (broker : List BrokerOrderStatus) (rs : List Round) (log : List ℕ) : Type 0 where
  -- the log is well formed, and begins with the first log's events
  pub formed : book_layout (run rs log) ≡ (Ok tt)
  pub kept : take (length (events_of log)) (events_of (run rs log)) ≡ events_of log
  -- an accepted log is still accepted
  pub accepted : book_verdict log ≡ Ok tt → book_verdict (run rs log) ≡ Ok tt
  -- no intent has two entries
  pub once : (y : Symbol) → count_where (is_entry y) (added log (run rs log)) ≤ 1
  -- each entry is that of an intent open at first
  pub entries : OfIntents (recovered log).orders (added log (run rs log))
  -- entries and intents still open add up to the intents open at first
  pub total : length (added log (run rs log)) + open_intents (run rs log) ≡ open_intents log
  -- the entries' numbers follow the first log's last checkpoint's without a gap
  pub numbers : Follow (last_number 0 (events_of log)) (added log (run rs log))
  pub fewer : Fewer rs log
  -- when none is open, the recovered state equals, except its time, that of one uncut round without failures from the first log, with room if any was open
  pub ends : open_intents (run rs log) ≡ 0 → (u : Round) → Uncut broker log u → (0 < open_intents log → Room u log)
      → same_recovered (run rs log) (next u log) ≡ true

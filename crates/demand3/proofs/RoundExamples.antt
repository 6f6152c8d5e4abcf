-- Rounds on books of bytes, by computation: a log that the claim is about, taken to its end with failures and cuts; and inputs that it leaves out, which show
-- that without any one of its premises the claim is false. About no function.
-- Assumes nothing.
use Prim.Native.Nat.{ℕ, ◌^◌}
use mathlib.Core.Path.{◌≡◌, refl, sym, ◌∙◌}
use mathlib.Core.List.{List, [], ◌∷◌, ◌++◌}
use mathlib.Core.Bool.{Bool, true, false, true≢false}
use native.Mathlib.Omega.{arith}
use lib.Dec.{ltb, lit<}
use lib.Ieee.{of_int, to_signed}
use lib.IntN.{pos}
use lib.ListN.{length, take, replicate}
use borrow.Author.Tests.{ltb-true, leb-true}
use Rattle.wire.specs.Le.{le}
use Rattle.wire.specs.Table.{padded}
use Rattle.symbol.specs.Symbol.{all_of, parses, parsed, field_ok, wide_field_ok}
use Rattle.wire.proofs.Bools.{and_left, and_right}
use Rattle.book.specs.Layout.{book_layout}
use Rattle.checkpoint.specs.Checkpoint.{ascii}
use Rattle.sheet.specs.Sheet.{offsets_ok, mark_ok, header_ok, broker_order_ok, parts_ok, sheet_layout, sheet_orders}
use Rattle.sheet.specs.declared.BrokerOrderStatus.{BrokerOrderStatus}
use Rattle.records.specs.Record.{order_bytes, order_of, order_ok, table_ok}
use Rattle.records.specs.Search.{any_where, count_where, change_first}
use Rattle.marks.specs.Marks.{marks_at}
use Rattle.effects.specs.Step.{marks_by, positions_of_rows, intended, orders_at, positions_at, orders_by, positions_by}
use Rattle.audit.specs.Verdict.{first_fault, walk, found, place, last_empty, rules, verdict_of, book_verdict}
use Rattle.samples.specs.BookBytes.{part, numbered, numbered_with, intent, begun, book_bytes, book_opened}
use Rattle.samples.specs.SheetBytes.{listed, sheet_bytes}
use Rattle.marks.specs.Action.{action_of}
use Rattle.recovery.specs.Recover.{steps, roomy, recovery, orders_out, positions_out}
use Rattle.join.specs.Join.{book_of, each, moved_cell, moved_row, moved_event, joined, joined_length, joining, join_out}
use Rattle.intents.specs.Intents.{query, chosen, reached, unreached, entry_text, entry_bytes, entry_table, entry_texts, addendum, lent_addendum, reconciling, addendum_out}
use Rattle.rounds.specs.Rounds.{Round, join_round, reconcile_round, round_of, next, run, round_orders_out, round_positions_out, round_addendum_out, round_log_out, round_with}
use Rattle.state.specs.State.{same_pair, same_marks, same_texts, same_order, same_position, same_lists, same_state}
use Rattle.demand3.specs.Demand3.{recovered, open_intents, NoRepeat, added, addendum_of, passes, Whole, answered, Small, OneList, Uncut, Room, same_recovered, Demand3}
use Rattle.demand3.specs.Claim.{AreBytes, Premises}
use Rattle.demand3.proofs.Theorem.{demand3}
use Rattle.std.specs.Prelude.{Ok, Err}
use Rattle.wire.specs.declared.refusal.Refusal.TheVariants as Refusal

-- all that the examples go through
unfoldable opened : Unit {0}
unfolding book_opened sheet_bytes padded all_of parses parsed field_ok wide_field_ok offsets_ok mark_ok header_ok broker_order_ok parts_ok sheet_layout sheet_orders order_bytes order_of order_ok table_ok any_where count_where change_first marks_at marks_by positions_of_rows intended orders_at positions_at orders_by positions_by first_fault walk found place last_empty rules verdict_of book_verdict action_of steps roomy recovery orders_out positions_out book_of each moved_cell moved_row moved_event joined joining join_out query chosen reached unreached entry_text entry_bytes entry_table entry_texts addendum reconciling addendum_out lent_addendum join_round reconcile_round round_of round_orders_out round_positions_out round_addendum_out round_log_out run
opened = tt

-- ---- logs
-- a list of bytes
unfoldable is_byte : ℕ → Bool
is_byte b = ltb b 256

bytes_by : (s : List ℕ) → all_of is_byte s ≡ true → AreBytes s
unfolding all_of is_byte
bytes_by [] h = tt
bytes_by (b ∷ s) h = (ltb-true b 256 (and_left (is_byte b) (all_of is_byte s) h), bytes_by s (and_right (is_byte b) (all_of is_byte s) h))

unfoldable two_intents : List ℕ → List ℕ
unfolding opened
two_intents text = book_bytes (begun ++ (numbered "diff_computed" 4 ∷ numbered "risk_check_passed" 5 ∷ intent 6 0 ∷ intent 7 2 ∷ [])) [] text

-- ---- rounds
-- one order of the broker's, with 5 left
unfoldable sheet_of : ℕ → List ℕ
unfolding opened
sheet_of id = sheet_bytes 1 (listed id 5) 0 []

unfoldable round_by : ℕ → List ℕ → ℕ → Round
unfolding opened sheet_of
round_by id queries k =
    record {
      sheet = sheet_of id;
      queries = queries;
      now = pos 7;
      time = pos 9;
      k = k;
      orders = 65536;
      positions = 65536;
      addendum = 65536;
      joined = 65536;
    }

-- ---- a log that the claim is about: two intents, AB and CD
unfoldable sample : List ℕ
unfolding opened two_intents
sample = two_intents (ascii "ABCD")

sample_sound : book_layout sample ≡ (Ok tt)
unfolding opened two_intents sample
sample_sound = refl

sample_bytes : AreBytes sample
unfolding opened two_intents sample is_byte
sample_bytes = bytes_by sample refl

sample_accepted : book_verdict sample ≡ Ok tt
unfolding opened two_intents sample
sample_accepted = refl

sample_open : open_intents sample ≡ 2
unfolding opened two_intents sample
sample_open = refl

sample_apart : NoRepeat (recovered sample).orders
unfolding opened two_intents sample
sample_apart = (refl, (refl, tt))

-- a round whose queries fail, one whose entries are cut after the first, and one written whole
unfoldable sample_rounds : List Round
unfolding opened round_by
sample_rounds = round_by 78 (1 ∷ 1 ∷ []) 0 ∷ round_by 78 (0 ∷ 0 ∷ []) 1 ∷ round_by 78 (0 ∷ []) 1 ∷ []

sample_ends : (open_intents (run sample_rounds sample) ≡ 0) × (length (added sample (run sample_rounds sample)) ≡ 2)
unfolding opened two_intents sheet_of round_by sample sample_rounds
sample_ends = (refl, refl)

-- the theorem is about them
sample_small : Small (chosen (sheet_orders (sheet_of 78)))
unfolding opened sheet_of
sample_small = lit< tt

sample_one : OneList (sheet_orders (sheet_of 78)) sample_rounds sample
unfolding sheet_of round_by sample_rounds
sample_one = ((λ p a. refl), ((λ p a. refl), ((λ p a. refl), tt)))

sample_premises : Premises (sheet_orders (sheet_of 78)) sample_rounds sample
sample_premises = record { bytes = sample_bytes; formed = sample_sound; apart = sample_apart; one = sample_one; small = sample_small }

sample_demand : Demand3 (sheet_orders (sheet_of 78)) sample_rounds sample
sample_demand = demand3.rounds (sheet_orders (sheet_of 78)) sample_rounds sample sample_premises

-- and so the state is that of one uncut round
unfoldable uncut : Round
unfolding round_by
uncut = round_by 78 (0 ∷ 0 ∷ []) 2

uncut_passes : passes uncut sample ≡ true
unfolding opened two_intents sheet_of round_by sample uncut
uncut_passes = refl

sample_uncut : Uncut (sheet_orders (sheet_of 78)) sample uncut
unfolding opened two_intents sheet_of round_by sample uncut
sample_uncut = record { sheet = refl; list = refl; up = refl; zeros = refl; now = refl; time = refl; whole = refl }

sample_room : Room uncut sample
unfolding opened two_intents sheet_of round_by sample uncut
sample_room =
    record {
      records = refl;
      addendum = leb-true (length (addendum_of uncut sample)) 65536 refl;
      joined = leb-true (joined_length sample (addendum_of uncut sample) 2) 65536 refl;
    }

sample_same : same_recovered (run sample_rounds sample) (next uncut sample) ≡ true
sample_same = sample_demand.ends sample_ends.0 uncut sample_uncut (λ h. sample_room)

-- ---- the buffers of a round that is done, and of one refused by 13 once its addendum was written
unfoldable lent_round : ℕ → Round
unfolding sheet_of
lent_round k = round_with (sheet_of 78) (0 ∷ 0 ∷ []) (pos 7) (pos 9) k 192 32 600 2500

done_out : ((round_of (lent_round 2) sample).answer ≡ Ok 2319) × (open_intents (take 2319 (round_log_out (lent_round 2) sample)) ≡ 0)
    × (length (round_log_out (lent_round 2) sample) ≡ 2500) × (le 4 (round_addendum_out (lent_round 2) sample) ≡ 2)
    × (length (round_orders_out (lent_round 2) sample) ≡ 192)
unfolding opened two_intents sheet_of sample lent_round
done_out = (refl, refl, refl, refl, refl)

refused_out : ((round_of (lent_round 3) sample).answer ≡ (Err Refusal.TooMany)) × (round_log_out (lent_round 3) sample ≡ replicate 2500 0)
    × (round_addendum_out (lent_round 3) sample ≡ replicate 600 0) × (round_orders_out (lent_round 3) sample ≡ replicate 192 0)
    × (round_positions_out (lent_round 3) sample ≡ replicate 32 0)
unfolding opened two_intents sheet_of sample lent_round
refused_out = (refl, refl, refl, refl, refl)

-- ---- a round that is not refused and in which queries were answered, cut before its first entry: it leaves as many open
cut_after : (answered (round_by 78 (0 ∷ 0 ∷ []) 0) sample ≡ true) × (passes (round_by 78 (0 ∷ 0 ∷ []) 0) sample ≡ true)
    × (open_intents (next (round_by 78 (0 ∷ 0 ∷ []) 0) sample) ≡ 2)
unfolding opened two_intents sheet_of round_by sample
cut_after = (refl, refl, refl)

-- ---- an uncut round without room for the joined log is refused by 3, and leaves both open
full_after : ((round_of (round_with (sheet_of 78) (0 ∷ 0 ∷ []) (pos 7) (pos 9) 2 192 32 600 2318) sample).answer ≡ (Err Refusal.NoRoom))
    × (open_intents (next (round_with (sheet_of 78) (0 ∷ 0 ∷ []) (pos 7) (pos 9) 2 192 32 600 2318) sample) ≡ 2)
unfolding opened two_intents sheet_of sample
full_after = (refl, refl)

-- ---- without "a well-formed log" the claim is false: a log without its last byte is refused by 2, and stays as it is
unfoldable torn : List ℕ
unfolding sample
torn = take 1804 sample

torn_after : (length sample ≡ 1805) × (book_layout torn ≡ (Err Refusal.Broken)) × ((round_of (round_by 78 (0 ∷ 0 ∷ []) 2) torn).answer ≡ (Err Refusal.Broken))
unfolding opened two_intents sheet_of round_by sample torn
torn_after = (refl, refl, refl)

torn_bytes : AreBytes torn
unfolding opened two_intents sample torn is_byte
torn_bytes = bytes_by torn refl

torn_apart : NoRepeat (recovered torn).orders
unfolding opened two_intents sample torn
torn_apart = (refl, tt)

needs_formed :
    ((broker : List BrokerOrderStatus) (rs : List Round) (log : List ℕ) → AreBytes log → NoRepeat (recovered log).orders → OneList broker rs log
    → Small (chosen broker) → Demand3 broker rs log)
    → ⊥
unfolding run
needs_formed claim =
    let d = claim (sheet_orders (sheet_of 78)) [] torn torn_bytes torn_apart tt sample_small in
    let e : (Err Refusal.Broken) ≡ (Ok tt) = sym torn_after.1 ∙ d.formed in
    let z : ◌≡◌ {A = ℕ} 0 1 = cc in
    omega arith

-- ---- without "all show one list" the claim is false: answered queries show two lists, none is open, and the state is that of neither list's uncut round
unfoldable two_lists : List Round
unfolding opened round_by
two_lists = round_by 78 (0 ∷ 0 ∷ []) 1 ∷ round_by 79 (0 ∷ []) 1 ∷ []

lists_after : (open_intents (run two_lists sample) ≡ 0) × (same_recovered (run two_lists sample) (next uncut sample) ≡ false)
    × (same_recovered (run two_lists sample) (next (round_by 79 (0 ∷ 0 ∷ []) 2) sample) ≡ false)
unfolding opened two_intents sheet_of round_by sample uncut two_lists same_pair same_marks same_texts same_order same_position same_lists same_state same_recovered of_int to_signed
lists_after = (refl, refl, refl)

needs_one :
    ((broker : List BrokerOrderStatus) (rs : List Round) (log : List ℕ) → AreBytes log → book_layout log ≡ (Ok tt) → NoRepeat (recovered log).orders
    → Small (chosen broker) → Demand3 broker rs log)
    → ⊥
needs_one claim =
    let d = claim (sheet_orders (sheet_of 78)) two_lists sample sample_bytes sample_sound sample_apart sample_small in
    true≢false (sym (d.ends lists_after.0 uncut sample_uncut (λ h. sample_room)) ∙ lists_after.1)

-- ---- without "repeat no symbol" the claim is false: two symbols that don't parse are both UNKNOWN, and after a whole round there are two entries and one
-- intent is open
unfoldable unparsed : List ℕ
unfolding opened two_intents
unparsed = two_intents (ascii "abcd")

unfoldable whole_round : List Round
unfolding round_by
whole_round = round_by 78 (0 ∷ 0 ∷ []) 2 ∷ []

unparsed_open : open_intents unparsed ≡ 2
unfolding opened two_intents unparsed
unparsed_open = refl

unparsed_after : (open_intents (run whole_round unparsed) ≡ 1) × (length (added unparsed (run whole_round unparsed)) ≡ 2)
unfolding opened two_intents sheet_of round_by unparsed whole_round
unparsed_after = (refl, refl)

unparsed_bytes : AreBytes unparsed
unfolding opened two_intents unparsed is_byte
unparsed_bytes = bytes_by unparsed refl

unparsed_sound : book_layout unparsed ≡ (Ok tt)
unfolding opened two_intents unparsed
unparsed_sound = refl

unparsed_one : OneList (sheet_orders (sheet_of 78)) whole_round unparsed
unfolding sheet_of round_by whole_round
unparsed_one = ((λ p a. refl), tt)

needs_apart :
    ((broker : List BrokerOrderStatus) (rs : List Round) (log : List ℕ) → AreBytes log → book_layout log ≡ (Ok tt) → OneList broker rs log
    → Small (chosen broker) → Demand3 broker rs log)
    → ⊥
needs_apart claim =
    let d = claim (sheet_orders (sheet_of 78)) whole_round unparsed unparsed_bytes unparsed_sound unparsed_one sample_small in
    omega (arith, d.total, unparsed_after.0, unparsed_after.1, unparsed_open)

-- ---- an order's row that doesn't parse, before one intent that doesn't: the entry goes to the row, and the intent stays open
unfoldable mixed : List ℕ
unfolding opened
mixed =
    book_bytes (begun ++ (numbered_with "diff_computed" 4 10 (part 6 0x1_0000_0000) ∷ numbered "risk_check_passed" 5 ∷ intent 6 2 ∷ []))
    ((part 4 0x2_0000_0000 ∷ part 0 0 ∷ part 1 5 ∷ part 0 0 ∷ []) ∷ []) (ascii "abcd")

mixed_open : open_intents mixed ≡ 1
unfolding opened mixed
mixed_open = refl

mixed_after :
    (open_intents (run (round_by 78 (0 ∷ []) 1 ∷ round_by 78 (0 ∷ []) 1 ∷ []) mixed) ≡ 1)
    × (length (added mixed (run (round_by 78 (0 ∷ []) 1 ∷ round_by 78 (0 ∷ []) 1 ∷ []) mixed)) ≡ 2)
unfolding opened sheet_of round_by mixed
mixed_after = (refl, refl)

-- ---- without "numbered at most 2^63 - 1" the claim is false: an OrderId of 2^63 is written as a cell that no i64 is read from, so a round written whole, in
-- which a query was answered, leaves as many open
unfoldable large_round : Round
unfolding round_by
large_round = round_by (2 ^ 63) (0 ∷ []) 1

large_after : (answered large_round sample ≡ true) × (passes large_round sample ≡ true) × (open_intents (next large_round sample) ≡ 2)
unfolding opened two_intents sheet_of round_by sample large_round
large_after = (refl, refl, refl)

large_whole : Whole large_round sample
unfolding opened two_intents sheet_of round_by sample large_round
large_whole = refl

large_one : OneList (sheet_orders (sheet_of (2 ^ 63))) (large_round ∷ []) sample
unfolding sheet_of round_by large_round
large_one = ((λ p a. refl), tt)

needs_small :
    ((broker : List BrokerOrderStatus) (rs : List Round) (log : List ℕ) → AreBytes log → book_layout log ≡ (Ok tt) → NoRepeat (recovered log).orders
    → OneList broker rs log → Demand3 broker rs log)
    → ⊥
needs_small claim =
    let d = claim (sheet_orders (sheet_of (2 ^ 63))) (large_round ∷ []) sample sample_bytes sample_sound sample_apart large_one in
    omega (arith, d.fewer.0 large_after.1 large_whole large_after.0, large_after.2, sample_open)

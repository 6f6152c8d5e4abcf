-- One event's effect on the orders keeps each of them good. About no function.
-- Assumes nothing.
use Prim.Native.Nat.{ℕ, ◌%◌, ◌^◌, ◌<◌}
use mathlib.Core.List.{List, [], ◌∷◌, ◌++◌, map}
use mathlib.Core.Bool.{Bool, true, false, cond}
use native.Mathlib.Omega.{arith}
use lib.IntN.{ℤ}
use lib.Ieee.Casts.{to_signed_in}
use mir.Syntax.{w32, w64}
use mir.Val.{SFits, of_z}
use mir.ValLaws.{to_z-Fits}
use Rattle.wire.proofs.Records.{Each}
use Rattle.wire.proofs.Records as Of
use Rattle.symbol.specs.Symbol.{parsed}
use Rattle.symbol.specs.declared.Symbol.{Symbol}
use Rattle.cell.specs.declared.TextRef.{TextRef}
use Rattle.checkpoint.specs.Checkpoint.{same_checkpoint}
use Rattle.checkpoint.specs.declared.Checkpoint.TheVariants.{DiffComputed, OrderIntent, OrderSubmitted, OrderFailed, OrderFilled}
use Rattle.records.specs.Search.{any_where, change_first, has_text, has_id}
use Rattle.records.specs.declared.order.Order.{Order}
use Rattle.records.proofs.Orders.{RefFits, nothing}
use Rattle.effects.specs.Event.{Row, Event}
use Rattle.effects.specs.Step.{symbol_or, symbol_from, ref_or, whole_or, limit_of, limit_or, new_order, order_of_row, orders_from, with_client, as_failed, as_submitted, as_filled, intended, intent_by, failed_by, submitted_by, filled_by, orders_at, orders_by, orders_step}
use Rattle.effects.proofs.CellFits.{ref_fits, limit_fits, new_fits}
use Rattle.effects.proofs.Fits.{each_append, each_changed, client_fits, failed_fits, filled_fits}
use Rattle.sound_state.proofs.Spelling.{Spelt, spelt_fits, unknown_spelt, parsed_spelt}
use Rattle.sound_state.proofs.Good.{RefIn, StrIn, Good, GoodStr, TextBytes, GoodRow, GoodRows, GoodEvent}
use Rattle.checkpoint.specs.declared.Checkpoint.{Checkpoint}
use Rattle.std.specs.Prelude.{Option, Some, None, Float}

-- ---- the changes of one order
client_good : (n : ℕ) (a : (Option TextRef)) → GoodStr n a → (o : Order) → Good n o → Good n (with_client a o)
client_good n a s o g =
    record {
      symbol = g.symbol;
      fits = client_fits a s.fits o g.fits;
      refs = record { action = g.refs.action; client = s.within; reason = g.refs.reason };
    }

failed_good : (n : ℕ) (a : (Option TextRef)) → GoodStr n a → (o : Order) → Good n o → Good n (as_failed a o)
failed_good n a s o g =
    record {
      symbol = g.symbol;
      fits = failed_fits a s.fits o g.fits;
      refs = record { action = g.refs.action; client = g.refs.client; reason = s.within };
    }

submitted_good : (n : ℕ) (z : ℤ) (o : Order) → Good n o → Good n (as_submitted z o)
submitted_good n z o g =
    let low : of_z w64 z % 2 ^ 32 < 2 ^ 32 = omega arith in
    record {
      symbol = g.symbol;
      fits =
          record {
            word = g.fits.word;
            len = g.fits.len;
            action = g.fits.action;
            shares = g.fits.shares;
            limit = g.fits.limit;
            id = to_z-Fits w32 (of_z w64 z % 2 ^ 32) (record { fits = low });
            client = g.fits.client;
            reason = g.fits.reason;
          };
      refs = record { action = g.refs.action; client = g.refs.client; reason = g.refs.reason };
    }

filled_good : (n : ℕ) (o : Order) → Good n o → Good n (as_filled o)
filled_good n o g =
    record {
      symbol = g.symbol;
      fits = filled_fits o g.fits;
      refs = record { action = g.refs.action; client = g.refs.client; reason = g.refs.reason };
    }

new_good : (n : ℕ) (y : Symbol) (action : TextRef) (shares limit : ℤ) (client : (Option TextRef)) → Spelt y → RefFits action
    → RefIn n action → SFits w64 shares → SFits w64 limit
    → GoodStr n client → Good n (new_order y action shares limit client)
new_good n y action shares limit client s f a q l c =
    record {
      symbol = s;
      fits = new_fits y action shares limit client (spelt_fits y s) f q l c.fits;
      refs = record { action = a; client = c.within; reason = tt };
    }

symbol_from_lem : (t : Option (List ℕ)) → TextBytes t → Spelt (symbol_from t)
symbol_from_lem None b = unknown_spelt
symbol_from_lem (Some t) b = parsed_spelt t b

pub ref_within : (n : ℕ) (a : (Option TextRef)) → StrIn n a → RefIn n (ref_or a)
ref_within n (Some r) h = h
ref_within n None h = omega arith

row_good : (n : ℕ) (r : Row) → GoodRow n r → Good n (order_of_row r)
row_good n r g =
    new_good n (symbol_from r.symbol) (ref_or r.action) (whole_or r.amount) (limit_or r.price) None (symbol_from_lem r.symbol g.symbol)
    (ref_fits r.action g.action.fits) (ref_within n r.action g.action.within) g.amount (limit_fits r.price)
    (record { fits = nothing; within = tt })

rows_good : (n : ℕ) (rs : List Row) → Each (GoodRow n) rs → Each (Good n) (map order_of_row rs)
rows_good n [] Of.none = Of.none
rows_good n (r ∷ rs) (Of.more g gs) = Of.more (row_good n r g) (rows_good n rs gs)

module _ (n : ℕ) (os : List Order) (h : Each (Good n) os) where
  diff_good : (rs : Option (List Row)) → GoodRows n rs → Each (Good n) (orders_from rs os)
  diff_good None g = h
  diff_good (Some rs) g = rows_good n rs g

  intent_good : (t : Option (List ℕ)) (a : (Option TextRef)) (q : (Option ℤ)) (x : (Option Float)) (client : (Option TextRef)) → TextBytes t → GoodStr n a → SFits w64 (whole_or q) → GoodStr n client
      → Each (Good n) (intent_by t a q x client os)
  unfolding intended
  intent_good None a q x client b ga gq gc = h
  intent_good (Some t) None q x client b ga gq gc = h
  intent_good (Some t) (Some a) None x client b ga gq gc = h
  intent_good (Some t) (Some a) (Some q) None client b ga gq gc = h
  intent_good (Some t) (Some a) (Some q) (Some x) client b ga gq gc = by (any_where (has_text t) os)
    where
      fresh : Good n (new_order (symbol_or (parsed t)) a q (limit_of x) client)
      fresh =
          new_good n (symbol_or (parsed t)) a q (limit_of x) client (parsed_spelt t b) (ref_fits (Some a) ga.fits) ga.within gq
          (record { sfits = to_signed_in 63 x }) gc

      by : (v : Bool) → Each (Good n) (cond v (change_first (has_text t) (with_client client) os) (os ++ (new_order (symbol_or (parsed t)) a q (limit_of x) client ∷ [])))
      by true = each_changed (has_text t) (with_client client) (client_good n client gc) os h
      by false = each_append os (new_order (symbol_or (parsed t)) a q (limit_of x) client) h fresh

  failed_all : (t : Option (List ℕ)) (a : (Option TextRef)) → GoodStr n a → Each (Good n) (failed_by t a os)
  failed_all None a g = h
  failed_all (Some t) a g = each_changed (has_text t) (as_failed a) (failed_good n a g) os h

  submitted_all : (id : (Option ℤ)) (t : Option (List ℕ)) → Each (Good n) (submitted_by id t os)
  submitted_all None t = h
  submitted_all (Some z) None = h
  submitted_all (Some z) (Some t) = each_changed (has_text t) (as_submitted z) (submitted_good n z) os h

  filled_all : (id : (Option ℤ)) → Each (Good n) (filled_by id os)
  filled_all None = h
  filled_all (Some z) = each_changed (has_id z) as_filled (filled_good n) os h

  pub orders_step_lem : (e : Event) → GoodEvent n e → Each (Good n) (orders_step e os)
  unfolding orders_by orders_at
  orders_step_lem e g = named e.checkpoint
    where
      by : (b₁ b₂ b₃ b₄ b₅ : Bool) → Each (Good n)
          (cond b₁ (orders_from e.orders os)
          (cond b₂ (intent_by e.symbol e.action e.shares e.limit e.client os)
          (cond b₃ (failed_by e.symbol e.reason os) (cond b₄ (submitted_by e.id e.symbol os) (cond b₅ (filled_by e.id os) os)))))
      by true b₂ b₃ b₄ b₅ = diff_good e.orders g.orders
      by false true b₃ b₄ b₅ = intent_good e.symbol e.action e.shares e.limit e.client g.symbol g.action g.shares g.client
      by false false true b₄ b₅ = failed_all e.symbol e.reason g.reason
      by false false false true b₅ = submitted_all e.id e.symbol
      by false false false false true = filled_all e.id
      by false false false false false = h

      named : (k : (Option Checkpoint)) → Each (Good n) (orders_by k e os)
      named None = h
      named (Some k) =
          by (same_checkpoint k DiffComputed) (same_checkpoint k OrderIntent) (same_checkpoint k OrderFailed)
          (same_checkpoint k OrderSubmitted) (same_checkpoint k OrderFilled)

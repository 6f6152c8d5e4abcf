-- The entries of an addendum as recovery reads them from the log they are joined to. About no function.
-- Assumes nothing.
use Rattle.types.specs.declared.order.OrderId.{OrderId}
use Rattle.cell.specs.declared.TextRef.{TextRef}
use Prim.Native.Nat.{ℕ, suc, ◌+◌, ◌-◌}
use mathlib.Core.Path.{◌≡◌, refl, ap, ◌∙◌}
use mathlib.Core.Bool.{true}
use mathlib.Core.List.{List, [], ◌∷◌}
use lib.IntN.{ℤ}
use lib.ListN.{length, take, replicate}
use lib.Seq.{take_at}
use Rattle.wire.specs.Le.{le}
use Rattle.wire.specs.Table.{padded}
use Rattle.wire.proofs.Written.{Bytes}
use Rattle.symbol.specs.Symbol.{symbol_width, parses, symbol_of}
use Rattle.symbol.specs.declared.Symbol.{Symbol}
use Rattle.symbol.proofs.Text.{text_bytes, parses_most}
use Rattle.cell.specs.Cell.{cell_of, as_i64}
use Rattle.checkpoint.specs.declared.Checkpoint.{Checkpoint}
use Rattle.checkpoint.specs.declared.Checkpoint.TheVariants.{OrderSubmitted, OrderFailed}
use Rattle.effects.specs.Event.{Event}
use Rattle.sound_state.proofs.Spelling.{Spelt}
use Rattle.intents.specs.Intents.{symbol_text, entry_name, entry_text, reason_text, id_cell_bytes}
use Rattle.std.specs.Prelude.{Some, None, Option}

-- a symbol that its text gives back
pub record Texted (y : Symbol) : Type 0 where
  pub len : length (symbol_text y) ≡ y.len
  pub word : le symbol_width (symbol_text y) ≡ y.word

-- as one does that a text spells
spelt_text : (t : List ℕ) → parses t ≡ true → Bytes t → symbol_text (symbol_of t) ≡ t
unfolding padded
spelt_text t p b =
    ap (take (length t)) (text_bytes symbol_width t b (parses_most t p)) ∙ take_at t (replicate (symbol_width - length t) 0) (length t) refl

pub spelt_texted : (y : Symbol) → Spelt y → Texted y
spelt_texted y s =
    let e = spelt_text s.text s.parse s.bytes in
    rw s.same (record { len = ap length e; word = ap (le symbol_width) e })

abbrev pub entry_checkpoint : Option OrderId → Checkpoint
entry_checkpoint (Some id) = OrderSubmitted
entry_checkpoint None = OrderFailed

-- an entry's number of the order and its reason, whose text stands at `first`
abbrev pub entry_id : Option OrderId → Option ℤ
entry_id c = as_i64 (cell_of (id_cell_bytes c))

abbrev pub entry_reason : Option OrderId → ℕ → Option TextRef
entry_reason (Some id) first = None
entry_reason None first = Some (record { first = first; len = length (reason_text None) })

-- an entry whose text stands at `first`
abbrev pub entry_event : Option OrderId → ℤ → ℕ → ℕ → Symbol → Event
entry_event c time number first y =
    record {
      checkpoint = Some (entry_checkpoint c);
      number = Some number;
      time = time;
      symbol = Some (symbol_text y);
      action = None;
      client = None;
      shares = None;
      limit = None;
      id = entry_id c;
      reason = entry_reason c (first + length (entry_name c) + y.len);
      equity = None;
      success = None;
      positions = None;
      orders = None;
    }

unfoldable pub entry_events : Option OrderId → ℤ → ℕ → ℕ → List Symbol → List Event
entry_events c time number first [] = []
entry_events c time number first (y ∷ ys) =
    entry_event c time number first y ∷ entry_events c time (suc number) (first + length (entry_text c y)) ys

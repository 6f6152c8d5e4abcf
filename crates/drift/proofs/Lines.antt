-- The arrays hold a line for each symbol that is held or targeted, in symbol order.
-- Assumes nothing.
use Prim.Native.Nat.{ℕ, ◌+◌, ◌/◌, ◌≤◌, ◌<◌}
use mathlib.Core.Path.{◌≡◌, sym, ap, subst, ◌∙◌}
use mathlib.Core.List.{List, [], ◌++◌, map, map-append}
use native.Mathlib.Nat.{zero-add}
use native.Mathlib.Omega.{arith}
use lib.Dec.{ltb}
use lib.Ieee.{binary64, of_bits}
use lib.ListN.{length, take, get_or, replicate, length-map, get_or-map, get_or-replicate, length-replicate}
use lib.Seq.{length-take-le, get_or-take}
use mir.Syntax.{w64}
use mir.Val.{to_z}
use Rattle.wire.proofs.Records.{Each, none}
use Rattle.symbol.specs.Symbol.{before}
use Rattle.symbol.specs.declared.Symbol.{Symbol}
use Rattle.wire.specs.Table.{records}
use Rattle.wire.proofs.Records.{length_records}
use Rattle.symbol.proofs.Text.{bytes_of_lem}
use Rattle.drift.specs.Rows.{valued, row_of, rows_in, held_in, targets_in, prices_in}
use Rattle.drift.specs.declared.rows.Rows.{Rows}
use Rattle.drift.specs.Symbols.{keys, sorted_with, symbols_of}
use Rattle.drift.specs.Report.{line_of, lines_of}
use Rattle.drift.specs.Code.{swapped, key, key_of, symbol_at, keys_of, last_bits, Gathered, Noted, line_at, lines_at, run, Blank, SoundLists, ByteLists}
use Rattle.drift.proofs.Ordered.{each_sorted, each_append, each_at, sorted_append, map_sorted}
use Rattle.drift.proofs.Sized.{Sized, key_back}
use Rattle.drift.proofs.Looked.{keys_are, keys_sized, before_key, last_same, run_map, sound_rows}

unfoldable nobody : Symbol
nobody = record { word = 0; len = 0 }

module _ (rp rt rq : List (Symbol × ℕ)) (ps : Each (λ (r : Symbol × ℕ). Sized r.0) rp) (ts : Each (λ (r : Symbol × ℕ). Sized r.0) rt)
    (qs : Each (λ (r : Symbol × ℕ). Sized r.0) rq) where
  abbrev all : List Symbol
  all = symbols_of (keys (valued (to_z w64) rp) ++ keys (valued (of_bits binary64) rt))

  all_keys : map key_of all ≡ sorted_with ltb (sorted_with ltb [] (keys_of rp)) (keys_of rt)
  all_keys =
      map_sorted key_of before ltb before_key [] (keys (valued (to_z w64) rp) ++ keys (valued (of_bits binary64) rt))
      ∙ ap (sorted_with ltb []) (map-append key_of (keys (valued (to_z w64) rp)) (keys (valued (of_bits binary64) rt)))
      ∙ rw (keys_are (to_z w64) rp, keys_are (of_bits binary64) rt) (sorted_append ltb [] (keys_of rp) (keys_of rt))

  all_sized : Each Sized all
  all_sized =
      each_sorted before Sized [] (keys (valued (to_z w64) rp) ++ keys (valued (of_bits binary64) rt)) none
      (each_append Sized (keys (valued (to_z w64) rp)) (keys (valued (of_bits binary64) rt)) (keys_sized (to_z w64) rp ps) (keys_sized (of_bits binary64) rt ts))

  module _ (ks us bs cs : List ℕ) (n : ℕ) (m : ℕ) (h : n ≤ length ks) (o : n ≤ m)
      (w : take n ks ≡ sorted_with ltb (sorted_with ltb [] (keys_of rp)) (keys_of rt))
      (a : Noted ks n rp (replicate m 0) us) (b : Noted ks n rt (replicate m 0) bs) (c : Noted ks n rq (replicate m 0) cs) where
    size : length all ≡ n
    size = sym (length-map all key_of) ∙ ap length (all_keys ∙ sym w) ∙ length-take-le n ks h

    key_at : (k : ℕ) → k < n → get_or ks k 0 ≡ key_of (get_or all k nobody)
    unfolding nobody swapped
    key_at k l = sym (get_or-take n ks k 0 l) ∙ ap (λ (t : List ℕ). get_or t k 0) (w ∙ sym all_keys) ∙ get_or-map key_of all k nobody

    noted : (rs : List (Symbol × ℕ)) (vs : List ℕ) → Noted ks n rs (replicate m 0) vs → (k : ℕ) → k < n
        → get_or vs k 0 ≡ last_bits 0 (key_of (get_or all k nobody)) rs
    noted rs vs t k l = t.each k l ∙ rw (get_or-replicate {A = ℕ} m k 0 0 (omega arith), key_at k l)

    one : (k : ℕ) → k < n → line_at ks us bs cs k ≡ line_of (valued (to_z w64) rp) (valued (of_bits binary64) rt) (valued (to_z w64) rq) (get_or all k nobody)
    one k l =
        let y = get_or all k nobody in
        let z = each_at Sized all_sized k nobody (rw size l) in
        λ i.
        record {
          symbol = (ap (λ (x : ℕ). symbol_at (key x)) (key_at k l) ∙ key_back y z) i;
          quantity = (ap (to_z w64) (noted rp us a k l) ∙ last_same (to_z w64) y z 0 rp ps) i;
          weight = (ap (of_bits binary64) (noted rt bs b k l) ∙ last_same (of_bits binary64) y z 0 rt ts) i;
          price = (ap (to_z w64) (noted rq cs c k l) ∙ last_same (to_z w64) y z 0 rq qs) i;
        }

    pub lines_are : run (line_at ks us bs cs) 0 n ≡ lines_of (valued (to_z w64) rp) (valued (of_bits binary64) rt) (valued (to_z w64) rq)
    unfolding lines_of
    lines_are =
        ap (run (line_at ks us bs cs) 0) (sym size)
        ∙ run_map (line_at ks us bs cs) (line_of (valued (to_z w64) rp) (valued (of_bits binary64) rt) (valued (to_z w64) rq)) nobody all 0
        (λ i l. ap (line_at ks us bs cs) (zero-add i) ∙ one i (rw (← size) l))

-- ---- the front of an array
pub front_noted : (ks : List ℕ) (n : ℕ) (rs : List (Symbol × ℕ)) (at after : List ℕ) → n ≤ length ks → Noted (take n ks) (length (take n ks)) rs at after → Noted ks n rs at after
front_noted ks n rs at after h t =
    let e : length (take n ks) ≡ n = length-take-le n ks h in
    record { each = λ k l. rw (get_or-take n ks k 0 l) at (t.each k (omega arith)) }

-- ---- rows that are all there are those in the list
pub whole_rows : (w : ℕ) (d : List ℕ) (r : Rows) → r.bytes.now ≡ d → r.width ≡ w → r.count ≡ length d / w → records row_of r.width r.count r.bytes.now ≡ rows_in w d
whole_rows w d r e f g = rw (g, f, e)

-- ---- what a table holds that was blank and took the symbols of two lists and what three lists say
module _ (p t q : List ℕ) (sound : SoundLists p t q) (bytes : ByteLists p t q) (ks us bs cs : List ℕ) (blank : Blank p t ks us bs cs) where
  held-rows : (length p / 32 ≤ 1024) × Each (λ (r : Symbol × ℕ). Sized r.0) (rows_in 32 p)
  held-rows = sound_rows 32 p (bytes_of_lem p (λ i. record { fits = bytes.held i })) sound.held

  wanted-rows : (length t / 24 ≤ 1024) × Each (λ (r : Symbol × ℕ). Sized r.0) (rows_in 24 t)
  wanted-rows = sound_rows 24 t (bytes_of_lem t (λ i. record { fits = bytes.wanted i })) sound.wanted

  priced-rows : (length q / 24 ≤ 1024) × Each (λ (r : Symbol × ℕ). Sized r.0) (rows_in 24 q)
  priced-rows = sound_rows 24 q (bytes_of_lem q (λ i. record { fits = bytes.priced i })) sound.priced

  -- the symbols have room
  pub some_room : (ks1 : List ℕ) (some : ℕ) → length ks1 ≡ length ks → Gathered ks 0 (rows_in 32 p) ks1 some → some + length t / 24 ≤ length ks1
  some_room ks1 some e g = omega (arith, g.most, length_records row_of 32 (length p / 32) p, blank.room)

  module _ (ks1 ks2 : List ℕ) (some n : ℕ) (e : length ks1 ≡ length ks) (f : length ks2 ≡ length ks1) (g : Gathered ks 0 (rows_in 32 p) ks1 some)
      (h : Gathered ks1 some (rows_in 24 t) ks2 n) where
    pub all_room : n ≤ length ks
    all_room = omega (arith, g.most, length_records row_of 32 (length p / 32) p, h.most, length_records row_of 24 (length t / 24) t, blank.room)

    module _ (us2 bs2 cs2 : List ℕ) (a : Noted ks2 n (rows_in 32 p) us us2) (b : Noted ks2 n (rows_in 24 t) bs bs2) (c : Noted ks2 n (rows_in 24 q) cs cs2) where
      pub filled_lines : lines_at ks2 us2 bs2 cs2 n ≡ lines_of (held_in p) (targets_in t) (prices_in q)
      filled_lines =
          let sorted = h.sorted ∙ ap (λ (z : List ℕ). sorted_with ltb z (keys_of (rows_in 24 t))) g.sorted in
          let r = all_room in
          lines_are (rows_in 32 p) (rows_in 24 t) (rows_in 24 q) held-rows.1 wanted-rows.1 priced-rows.1 ks2 us2 bs2 cs2 n (length ks) (omega arith) r sorted
          (subst (λ (z : List ℕ). Noted ks2 n (rows_in 32 p) z us2) blank.quantities a)
          (subst (λ (z : List ℕ). Noted ks2 n (rows_in 24 t) z bs2) blank.weights b)
          (subst (λ (z : List ℕ). Noted ks2 n (rows_in 24 q) z cs2) blank.costs c)

-- ---- arrays of m zeros have room
pub blank : (m : ℕ) (p t : List ℕ) {ks us bs cs : List ℕ} → length p / 32 + length t / 24 ≤ m
    → ks ≡ replicate m 0 → us ≡ replicate m 0 → bs ≡ replicate m 0 → cs ≡ replicate m 0 → Blank p t ks us bs cs
blank m p t h ek eu eb ec =
    let e : length (replicate {A = ℕ} m 0) ≡ m = length-replicate {A = ℕ} m 0 in
    let z : replicate {A = ℕ} m 0 ≡ replicate {A = ℕ} (length (replicate {A = ℕ} m 0)) 0 = ap (λ (k : ℕ). replicate {A = ℕ} k 0) (sym e) in
    rw (ek, eu, eb, ec) (record { room = rw e h; quantities = z; weights = z; costs = z })

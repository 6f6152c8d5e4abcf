-- `words::insert`: x stands at its place already, or is put there.
use Prim.Native.Nat.{ℕ, ◌+◌}
use mathlib.Core.Path.{sym, ap, ◌∙◌}
use mathlib.Core.List.{List}
use native.Mathlib.Omega.{arith}
use lib.ListN.{take, set}
use Rattle.drift.proofs.Inserted.{front_place, front_found, insert_old, insert_new}
use Rattle.drift.proofs.Opened.{open_part}
use Rattle.drift.proofs.words.insert.Goals as goal

pub returns-then-has : goal.returns-then-has
returns-then-has c =
    let a = c.args in
    let ks = a.keys.now in
    let p = c.place-p.result in
    let at = front_place ks a.n a.x p (omega arith) c.place-p.ensures in
    record { one_more = omega arith; in_place = sym (insert_old ks a.n a.x p (omega arith) at (sym (c.has.ensures ∙ front_found ks a.n a.x p (omega arith)) ∙ c.if-has.true)) }

pub returns : goal.returns
returns c =
    let a = c.args in
    let ks = a.keys.now in
    let p = c.place-p.result in
    let at = front_place ks a.n a.x p (omega arith) c.place-p.ensures in
    let m = at.most in
    let absent = sym (c.has.ensures ∙ front_found ks a.n a.x p (omega arith)) ∙ c.if-has.false in
    record {
      one_more = omega arith;
      in_place = ap (λ (t : List ℕ). take (a.n + 1) (set t p a.x)) (open_part ks c.move_up.new.keys p a.n m c.requires.room c.move_up.ensures) ∙ insert_new ks a.n a.x p (omega arith) at c.requires.room absent;
    }

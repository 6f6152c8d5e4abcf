-- `query::ask`: by the place of the first query that was answered.
use Prim.Native.Nat.{◌+◌}
use mathlib.Core.Path.{◌≡◌, sym, ap, ◌∙◌}
use native.Mathlib.Omega.{arith}
use borrow.Author.Tests.{tests}
use lib.ListN.{take, drop}
use lib.Seq.{drop-drop}
use Rattle.std.proofs.Common.{rules}
use Rattle.std.proofs.lemmas.Iterator.{YieldsList-from_slice}
use Rattle.std.proofs.lemmas.Iterator.Search.{position_from_yields_List}
use Rattle.intents.proofs.Queries.{answers, after, place_of, asked_of}
use Rattle.intents.proofs.query.ask.Goals as goal

pub returns-in-Some : goal.returns-in-Some
returns-in-Some c =
    let a = c.args in
    let s = drop a.at a.queries.now in
    let e : c.position.result ≡ place_of 5 s =
    position_from_yields_List answers _ _ c.position.result c.position.ensures.ran (YieldsList-from_slice (take 5 s) cc) (λ x b q k. search (rules, tests)) in
    let n : a.at + (c.in-Some.i + 1) ≡ a.at + c.in-Some.i + 1 = omega arith in
    asked_of 5 s ∙ ap (after 5 s) (sym e ∙ c.in-Some.is) ∙ rw (drop-drop (c.in-Some.i + 1) a.at a.queries.now, n)

pub returns-in-None : goal.returns-in-None
returns-in-None c =
    let a = c.args in
    let s = drop a.at a.queries.now in
    let e : c.position.result ≡ place_of 5 s =
    position_from_yields_List answers _ _ c.position.result c.position.ensures.ran (YieldsList-from_slice (take 5 s) cc) (λ x b q k. search (rules, tests)) in
    asked_of 5 s ∙ ap (after 5 s) (sym e ∙ c.in-None.is) ∙ rw (← c.part-asked.ensures, drop-drop)

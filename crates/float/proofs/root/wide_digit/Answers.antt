-- `float::root::wide_digit` meets its contract: by `kept` and `lowered`. Assumes nothing.
use Rattle.std.proofs.Common.{◌≡◌, ℕ, ◌+◌, ◌*◌, ◌/◌, ◌%◌, ◌<◌, sym, mod-lt, div-add-mod', arith}
use Rattle.float.proofs.RootDigits.{Sizes, digit_some, sizes, kept, lowered}
use Rattle.float.proofs.root.wide_digit.Goals as goal

pub overflow_mul-square : goal.overflow_mul-square
overflow_mul-square c =
    let number : ℕ = c.args.first.left * c.args.b + c.args.hi in
    let digit : ℕ = number / (2 * c.args.first.root) in
    let rest : ℕ = number % (2 * c.args.first.root) in
    let divided : number ≡ digit * (2 * c.args.first.root) + rest = sym (div-add-mod' number (2 * c.args.first.root)) in
    let below : rest < 2 * c.args.first.root = mod-lt number (omega arith) in
    let fit : Sizes c.args.first.root c.args.first.left c.args.b c.args.hi c.args.lo digit rest c.args.first.whole c.requires.base_below c.requires.high c.requires.low divided below = sizes c.args.first.root c.args.first.left c.args.b c.args.hi c.args.lo digit rest c.args.first.whole c.requires.base_below c.requires.high c.requires.low divided below c.requires.short c.requires.base in
    record { fits = omega (arith, fit.squared) }

pub returns-then-square-above : goal.returns-then-square-above
returns-then-square-above c =
    let number : ℕ = c.args.first.left * c.args.b + c.args.hi in
    let digit : ℕ = number / (2 * c.args.first.root) in
    let rest : ℕ = number % (2 * c.args.first.root) in
    let divided : number ≡ digit * (2 * c.args.first.root) + rest = sym (div-add-mod' number (2 * c.args.first.root)) in
    let below : rest < 2 * c.args.first.root = mod-lt number (omega arith) in
    let w = kept c.args.first.root c.args.first.left c.args.b c.args.hi c.args.lo digit rest c.args.first.whole c.requires.base_below c.requires.high c.requires.low divided below c.if-square-above.true in
    record { number = w.all; least = w.least; most = w.short }

pub overflow_sub-result-4 : goal.overflow_sub-result-4
overflow_sub-result-4 c =
    let number : ℕ = c.args.first.left * c.args.b + c.args.hi in
    let digit : ℕ = number / (2 * c.args.first.root) in
    let rest : ℕ = number % (2 * c.args.first.root) in
    let divided : number ≡ digit * (2 * c.args.first.root) + rest = sym (div-add-mod' number (2 * c.args.first.root)) in
    let below : rest < 2 * c.args.first.root = mod-lt number (omega arith) in
    let fit : Sizes c.args.first.root c.args.first.left c.args.b c.args.hi c.args.lo digit rest c.args.first.whole c.requires.base_below c.requires.high c.requires.low divided below = sizes c.args.first.root c.args.first.left c.args.b c.args.hi c.args.lo digit rest c.args.first.whole c.requires.base_below c.requires.high c.requires.low divided below c.requires.short c.requires.base in
    omega (arith, fit.taken, digit_some digit c.if-square-above.false)

pub returns : goal.returns
returns c =
    let number : ℕ = c.args.first.left * c.args.b + c.args.hi in
    let digit : ℕ = number / (2 * c.args.first.root) in
    let rest : ℕ = number % (2 * c.args.first.root) in
    let divided : number ≡ digit * (2 * c.args.first.root) + rest = sym (div-add-mod' number (2 * c.args.first.root)) in
    let below : rest < 2 * c.args.first.root = mod-lt number (omega arith) in
    let w = lowered c.args.first.root c.args.first.left c.args.b c.args.hi c.args.lo digit rest c.args.first.whole c.requires.base_below c.requires.high c.requires.low divided below c.if-square-above.false in
    record { number = w.all; least = w.least; most = w.short }

pub invariant_of-result : goal.invariant_of-result
invariant_of-result c =
    let number : ℕ = c.args.first.left * c.args.b + c.args.hi in
    let digit : ℕ = number / (2 * c.args.first.root) in
    let rest : ℕ = number % (2 * c.args.first.root) in
    let divided : number ≡ digit * (2 * c.args.first.root) + rest = sym (div-add-mod' number (2 * c.args.first.root)) in
    let below : rest < 2 * c.args.first.root = mod-lt number (omega arith) in
    let w = kept c.args.first.root c.args.first.left c.args.b c.args.hi c.args.lo digit rest c.args.first.whole c.requires.base_below c.requires.high c.requires.low divided below c.if-square-above.true in
    record { whole = w.most }

pub invariant_of-result-2 : goal.invariant_of-result-2
invariant_of-result-2 c =
    let number : ℕ = c.args.first.left * c.args.b + c.args.hi in
    let digit : ℕ = number / (2 * c.args.first.root) in
    let rest : ℕ = number % (2 * c.args.first.root) in
    let divided : number ≡ digit * (2 * c.args.first.root) + rest = sym (div-add-mod' number (2 * c.args.first.root)) in
    let below : rest < 2 * c.args.first.root = mod-lt number (omega arith) in
    let w = lowered c.args.first.root c.args.first.left c.args.b c.args.hi c.args.lo digit rest c.args.first.whole c.requires.base_below c.requires.high c.requires.low divided below c.if-square-above.false in
    record { whole = w.most }

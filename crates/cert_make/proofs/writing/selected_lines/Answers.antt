use Rattle.std.proofs.Common.{◌≡◌, ◌∙◌, ◌-◌, ◌<◌, List, ℕ, suc, Some, ap, arith, get_or, length, slice_get, sym}
use Rattle.std.proofs.lemmas.Option.{slice_get-get_or}
use Rattle.lists.proofs.Places.{slice_get-read}
use Rattle.cert_make.proofs.Taken.{anew_all, anew_next}
use Rattle.cert_make.proofs.writing.selected_lines.Goals as goal

pub overflow_sub-number : goal.overflow_sub-number
overflow_sub-number c =
    let i = c.loop-number.number-index in
    let read = c.numbers-number-items.result.now in
    let there = ap (λ (xs : List ℕ). slice_get xs i) (sym c.numbers-number-items.ensures) ∙ slice_get-get_or read i 0 c.loop-number-test.true in
    omega (arith, (c.requires (get_or read i 0) (i, there)).0)

pub bounds-lines-number : goal.bounds-lines-number
bounds-lines-number c =
    let i = c.loop-number.number-index in
    let read = c.numbers-number-items.result.now in
    let there = ap (λ (xs : List ℕ). slice_get xs i) (sym c.numbers-number-items.ensures) ∙ slice_get-get_or read i 0 c.loop-number-test.true in
    let h = c.requires (get_or read i 0) (i, there) in
    omega (arith, h.0, h.1)

pub loop-number-preserved : goal.loop-number-preserved
loop-number-preserved c =
    let i = c.loop-number.number-index in
    let lines = c.args.lines.now in
    let read = c.numbers-number-items.result.now in
    let number = get_or read i 0 in
    let there : slice_get c.args.needed.now i ≡ Some number = ap (λ (xs : List ℕ). slice_get xs i) (sym c.numbers-number-items.ensures) ∙ slice_get-get_or read i 0 c.loop-number-test.true in
    let h = c.requires number (i, there) in
    let is : number ≡ suc (number - 1) = omega (arith, h.0) in
    let less : number - 1 < length lines = omega (arith, h.0, h.1) in
    let l = c.index-lines-number.result in
    rw c.in_ok-push.ensures.items
    (anew_next c.args.needed.now lines i (number - 1) l c.in_ok-renumbered.field-0 c.loop-number.found.items (there ∙ ap Some is) (slice_get-read lines (number - 1) l less c.index-lines-number.is)
    c.in_ok-renumbered.ensures c.loop-number.invariant)

pub returns : goal.returns
returns c =
    let same = ap length c.numbers-number-items.ensures in
    anew_all c.args.needed.now c.args.lines.now c.loop-number.number-index c.loop-number.found.items (omega (arith, same, c.loop-number-test.false)) (omega (arith, same, c.loop-number.auto.number-index-end)) c.loop-number.invariant

use Rattle.std.proofs.Common.{◌≡◌, ◌∙◌, ◌-◌, ◌<◌, suc, Some, ap, arith, length}
use Rattle.lists.proofs.Places.{slice_get-read}
use Rattle.cert_make.proofs.Found.{found_all, found_first, found_more, needed_within}
use Rattle.cert_make.proofs.needs.found_from.Goals as goal

pub loop-at-init : goal.loop-at-init
loop-at-init c = found_first c.args.lines.now c.args.claim.now c.new-found.result.keys c.add_cited.new.found.keys c.new-found.ensures c.in_ok-add_cited.ensures

pub overflow_sub-number : goal.overflow_sub-number
overflow_sub-number c =
    let number = c.key-number.result in
    let h = needed_within c.args.lines.now c.args.claim.now c.requires number (c.loop-at.invariant.each number (c.loop-at.at, c.key-number.ensures)) in
    omega (arith, h.0)

pub bounds-lines-number : goal.bounds-lines-number
bounds-lines-number c =
    let number = c.key-number.result in
    let h = needed_within c.args.lines.now c.args.claim.now c.requires number (c.loop-at.invariant.each number (c.loop-at.at, c.key-number.ensures)) in
    omega (arith, h.0, h.1)

pub loop-at-preserved : goal.loop-at-preserved
loop-at-preserved c =
    let lines = c.args.lines.now in
    let number = c.key-number.result in
    let h = needed_within lines c.args.claim.now c.requires number (c.loop-at.invariant.each number (c.loop-at.at, c.key-number.ensures)) in
    let is : number ≡ suc (number - 1) = omega (arith, h.0) in
    let less : number - 1 < length lines = omega (arith, h.0, h.1) in
    let l = c.index-lines-number.result in
    found_more lines c.args.claim.now c.loop-at.at (number - 1) l c.loop-at.found.keys c.add_cited-in-loop-at.new.found.keys (c.key-number.ensures ∙ ap Some is)
    (slice_get-read lines (number - 1) l less c.index-lines-number.is) c.loop-at.invariant c.in_ok-add_cited-2.ensures

pub returns-clause-exact : goal.returns-clause-exact
returns-clause-exact c =
    found_all c.args.lines.now c.args.claim.now c.loop-at.at c.loop-at.found.keys (omega (arith, c.len.ensures.value, c.loop-at-test.false)) c.loop-at.invariant

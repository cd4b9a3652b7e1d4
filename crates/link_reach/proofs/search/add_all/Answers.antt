use Rattle.std.proofs.Common.{subst, sym, get_or}
use Rattle.std.proofs.lemmas.List.{take_all, take_more}
use Rattle.link_reach.specs.Search.{AddsAll}
use Rattle.link_reach.proofs.Finding.{adds_none, adds_more, adds_put}
use Rattle.link_reach.proofs.search.add_all.Goals as goal

pub loop-number-init : goal.loop-number-init
loop-number-init c = adds_none _

pub loop-number-preserved : goal.loop-number-preserved
loop-number-preserved c =
    let x = get_or c.args.numbers.now c.loop-number.number-index 0 in
    let one = adds_put c.loop-number.set c.insert.new.self x c.in_ok-insert.field-0 c.in_ok-insert.ensures.added in
    let all = adds_more _ _ _ _ x c.loop-number.invariant one in
    subst (λ added. AddsAll added c.args.set.now c.insert.new.self) (sym (take_more c.args.numbers.now c.loop-number.number-index 0 c.loop-number-test.true)) all

pub returns : goal.returns
returns c = subst (λ added. AddsAll added c.args.set.now c.loop-number.set) (take_all c.loop-number.number-index c.args.numbers.now c.loop-number-test.false) c.loop-number.invariant

use Rattle.std.proofs.Common.{ap, sym, ◌∙◌, arith}
use Rattle.std.specs.List.{sum_by}
use Rattle.std.proofs.lemmas.List.{take_all}
use Rattle.std.proofs.lemmas.List.Sums.{sum-map, sum_by_more}
use Rattle.narrow_rules.specs.Narrowed.{targets_at}
use Rattle.refined_query.proofs.pairs.pairs_of.Goals as goal

pub loop-code-preserved : goal.loop-code-preserved
loop-code-preserved c =
    let codes = c.args.codes.now in
    let more = sum_by_more targets_at codes c.loop-code.code-index c.code-item.result c.loop-code-test.true in
    let added = c.in_ok-count.ensures.1 in
    let one = c.targets_of.ensures in
    let here = ap targets_at c.code-item.is in
    let before = c.loop-code.invariant in
    omega (arith, more, added, one, here, before)

pub returns : goal.returns
returns c =
    let codes = c.args.codes.now in
    c.loop-code.invariant ∙ ap (sum_by targets_at) (take_all c.loop-code.code-index codes c.loop-code-test.false) ∙ sym (sum-map targets_at codes)

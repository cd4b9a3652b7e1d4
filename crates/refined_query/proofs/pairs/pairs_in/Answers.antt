use Rattle.std.proofs.Common.{◌<◌, ap, sym, ◌∙◌, arith, length}
use Rattle.std.specs.List.{sum_by}
use Rattle.std.proofs.lemmas.List.{take_all}
use Rattle.std.proofs.lemmas.List.Sums.{sum-map, sum_by_more}
use Rattle.std.proofs.lemmas.Option.{get_or_from_slice_get}
use Rattle.lists.proofs.Places.{slice_get-there}
use Rattle.link_rules.specs.Linked.{LinkedMethod}
use Rattle.refined_query.specs.Rounds.{pairs_of}
use Rattle.refined_query.proofs.pairs.pairs_in.Goals as goal

pub loop-method-preserved : goal.loop-method-preserved
loop-method-preserved c =
    let methods = c.args.linked.now.methods in
    let at = c.loop-method.method in
    let below : at < length methods = let count = c.methods-method-end.ensures.count in let test = c.loop-method-test.true in omega (arith, count, test) in
    let there = slice_get-there methods at below in
    let more = sum_by_more (λ (m : LinkedMethod). pairs_of m.code) methods at there.0 below in
    let here = ap (λ (m : LinkedMethod). pairs_of m.code) (get_or_from_slice_get methods at there.0 there.0 there.1) in
    let code = ap pairs_of (c.code.ensures there.0 there.1) in
    let own = c.in_ok-pairs_of.ensures in
    let added = c.in_ok-count.ensures.1 in
    let before = c.loop-method.invariant in
    omega (arith, more, here, code, own, added, before)

pub returns : goal.returns
returns c =
    let methods = c.args.linked.now.methods in
    let count = c.methods-method-end.ensures.count in
    let past = c.loop-method-test.false in
    c.loop-method.invariant ∙ ap (sum_by (λ (m : LinkedMethod). pairs_of m.code)) (take_all c.loop-method.method methods (omega (arith, count, past)))
    ∙ sym (sum-map (λ (m : LinkedMethod). pairs_of m.code) methods)

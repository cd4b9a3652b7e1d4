use Rattle.std.proofs.Common.{List, length, subst, arith}
use Rattle.lists.specs.Grown.{IsGrownBy}
use Rattle.lists.proofs.Places.{slice_get-there}
use Rattle.link_rules.specs.declared.code.Code.{Code}
use Rattle.link_narrow.specs.Reaching.{StaysBefore}
use Rattle.link_narrow.proofs.Reached.{found_all, found_first, found_more, reached_within}
use Rattle.link_narrow.proofs.reaching.reached.Goals as goal

pub loop-at-init : goal.loop-at-init
loop-at-init c = λ first last.
    found_first c.args.linked.now c.args.named.now first c.root.result c.new-found.result.keys c.add.new.self.keys last c.root.ensures c.new-found.ensures c.in_ok-add.ensures.keys

pub code-requires : goal.code-requires
code-requires c =
    let form = c.tell_form.ensures in
    let found = c.loop-at.invariant form.number form.is_root.last in
    reached_within c.args.linked.now c.args.named.now form form.number form.is_root.last (found.each c.loop-at.at c.key-number.result c.key-number.ensures)

pub loop-at-preserved : goal.loop-at-preserved
loop-at-preserved c = λ first last.
    let p = c.args.linked.now in
    let form = c.tell_form.ensures in
    let number = c.key-number.result in
    let found = c.loop-at.invariant first last in
    let within = reached_within p c.args.named.now form first last (found.each c.loop-at.at number c.key-number.ensures) in
    let m = slice_get-there p.methods number within in
    let code = c.code.ensures m.0 m.1 in
    found_more p c.args.named.now first c.loop-at.at number m.0 c.loop-at.found.keys c.find_in.new.found.keys m.1 c.key-number.ensures found
    (subst (λ (xs : List Code). IsGrownBy (StaysBefore c.args.named.now number xs (length xs)) c.loop-at.found.keys c.find_in.new.found.keys) code c.in_ok-find_in.ensures)

pub returns : goal.returns
returns c = λ root last number.
    let many = c.len.ensures.value in
    let end = c.loop-at-test.false in
    found_all c.args.linked.now c.args.named.now root c.loop-at.at c.loop-at.found.keys last (omega (arith, many, end)) (c.loop-at.invariant root last) root last number

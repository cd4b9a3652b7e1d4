use Rattle.std.proofs.Common.{vec_len, sym, ◌∙◌}
use Rattle.std.proofs.lemmas.Bool.{eqb-true}
use Rattle.std.proofs.lemmas.Result.{on_ok_weaker}
use Rattle.link_sites.specs.Places.{before}
use Rattle.spds_nodes.specs.Backs.{IsBackBy}
use Rattle.spds_nodes.proofs.ComingBack.{IsBackBy-none, IsBackBy-same, PassesBack-position}
use Rattle.spds_nodes.proofs.Parts.{HasCode-none, HasCode-some}
use Rattle.spds_nodes.proofs.backs.push_back_at.Goals as goal

pub returns-in_default : goal.returns-in_default
returns-in_default c =
    let p = c.args.linked.now in
    let n = c.args.node in
    HasCode-none p n.place.method c.args.index (IsBackBy p n c.args.x (before n.place.method c.args.index)) _ c.in_default.ensures.none

pub returns-then-is_empty : goal.returns-then-is_empty
returns-then-is_empty c =
    let p = c.args.linked.now in
    let n = c.args.node in
    let call = before n.place.method c.args.index in
    let empty = sym c.in_ok-positions.positions.ok.0 ∙ eqb-true (vec_len c.in_ok-positions.positions) 0 (sym c.is_empty.ensures ∙ c.if-is_empty.true) in
    HasCode-some p n.place.method c.args.index (IsBackBy p n c.args.x call) c.in-Some.code.now _ _ c.in-Some.ensures.some
    (IsBackBy-none p n c.args.x call c.in-Some.code.now c.in_ok-positions.positions.items _ empty c.in_ok-positions.ensures)

pub push_back_over-requires-clause-each : goal.push_back_over-requires-clause-each
push_back_over-requires-clause-each c = λ v has.
    PassesBack-position c.in-Some.code.now c.args.node.place.raised c.args.x v (c.in_ok-positions.ensures.each v (rw c.deref-2.ensures.value at has))

pub returns : goal.returns
returns c =
    let p = c.args.linked.now in
    let n = c.args.node in
    let call = before n.place.method c.args.index in
    let code = c.in-Some.code.now in
    on_ok_weaker c.push_back_over.result
    (λ added. HasCode-some p n.place.method c.args.index (IsBackBy p n c.args.x call) code _ _ c.in-Some.ensures.some
    (IsBackBy-same p n c.args.x call code c.in_ok-targets.targets.items c.in_ok-positions.positions.items _ _
    (λ t. ((λ has. (c.targets_of.ensures t).0 ((c.in_ok-targets.ensures.same t).0 has)), (λ calls. (c.in_ok-targets.ensures.same t).1 ((c.targets_of.ensures t).1 calls))))
    c.in_ok-positions.ensures (rw (c.before-2.ensures, c.deref.ensures.value, c.deref-2.ensures.value) at added)))
    c.push_back_over.ensures

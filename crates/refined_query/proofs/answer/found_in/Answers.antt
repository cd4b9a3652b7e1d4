use Rattle.std.proofs.Common.{◌≡◌, length, sym, ap, ◌∙◌, arith}
use Rattle.refined_query.proofs.Over.{empty_list, lost_answer, lost_few, no_node, node_method, stands_answer, still_node}
use Rattle.refined_query.proofs.answer.found_in.Goals as goal

pub returns-then-is_empty-clause-answer : goal.returns-then-is_empty-clause-answer
returns-then-is_empty-clause-answer g c =
    let q = c.args.linked.now in
    let m = node_method q c.args.node c.requires.node in
    let is = c.is_empty.ensures in
    let yes = c.if-is_empty.true in
    let empty = empty_list c.code.result.now (grind (arith, is, yes)) in
    lost_answer q c.args.node (no_node q c.args.node m.0 m.1 (sym (c.code.ensures m.0 m.1) ∙ empty)) c.from_vec.result
    (c.from_vec.ensures ∙ c.new.ensures.items)

pub returns-then-is_empty-clause-beyond : goal.returns-then-is_empty-clause-beyond
returns-then-is_empty-clause-beyond g c = λ more.
    let q = c.args.linked.now in
    let m = node_method q c.args.node c.requires.node in
    let is = c.is_empty.ensures in
    let yes = c.if-is_empty.true in
    let empty = empty_list c.code.result.now (grind (arith, is, yes)) in
    absurd (lost_few q c.args.node (no_node q c.args.node m.0 m.1 (sym (c.code.ensures m.0 m.1) ∙ empty)) c.args.budget more)

pub returns-clause-answer : goal.returns-clause-answer
returns-clause-answer g c =
    let q = c.args.linked.now in
    let m = node_method q c.args.node c.requires.node in
    let is = c.is_empty.ensures in
    let no = c.if-is_empty.false in
    let stands = still_node q c.args.node c.requires.node m.0 m.1 (λ none.
    let len : length c.code.result.now ≡ 0 = ap length (c.code.ensures m.0 m.1 ∙ none) in grind (arith, is, no, len)) in
    stands_answer q c.args.node stands c.in_ok-found_over.field-0.sites c.in_ok-found_over.field-0.demanded c.in_ok-demand.demand
    c.in_ok-found_over.ensures.sites c.in_ok-demand.ensures.demanded c.in_ok-found_over.ensures.size

use Rattle.std.proofs.Common.{ℕ, ◌<◌, length, ◌∙◌}
use Rattle.std.proofs.lemmas.List.Elements.{All-contains}
use Rattle.class_rules.specs.Rows.{HasInterface}
use Rattle.class_order.specs.Tables.{Under}
use Rattle.class_tree.proofs.Building.{finishing_fewer, reach_map}
use Rattle.class_tree.proofs.near.near_spans.Goals as goal

pub reach_spans-requires-clause-known : goal.reach_spans-requires-clause-known
reach_spans-requires-clause-known c = λ a b u. rw (c.in_ok-implementers.ensures.len, c.len.ensures) (All-contains (λ (p : ℕ × ℕ). p.0 < length c.args.below.now) c.args.implements.now (a, b) c.requires.class ((c.in_ok-implementers.ensures.steps a b).0 u))

pub reach_spans-requires-clause-order : goal.reach_spans-requires-clause-order
reach_spans-requires-clause-order c = finishing_fewer c.args.below.now _ _ (c.in_ok-implementers.ensures.len ∙ c.len.ensures) (λ a b u. c.requires.below a b ((c.in_ok-implementers.ensures.steps a b).0 u)) c.requires.order

pub reach_spans-requires-clause-places : goal.reach_spans-requires-clause-places
reach_spans-requires-clause-places c = rw (c.in_ok-implementers.ensures.len, c.len.ensures) c.requires.places

pub returns : goal.returns
returns c = reach_map (Under c.in_ok-implementers.implementers) (HasInterface c.args.implements.now) _ _ c.args.places.now _
    (λ a b u. (c.in_ok-implementers.ensures.steps a b).0 u) (λ a b s. (c.in_ok-implementers.ensures.steps a b).1 s) (c.in_ok-implementers.ensures.len ∙ c.len.ensures) c.in_ok-table.ensures

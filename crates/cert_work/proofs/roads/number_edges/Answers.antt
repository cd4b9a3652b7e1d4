use Rattle.std.proofs.Common.{List, arith, subst}
use Rattle.std.proofs.lemmas.List.{take_all}
use Rattle.std.proofs.lemmas.Option.{slice_get-get_or}
use Rattle.lists.proofs.Grown.{longer_adds, longer_more, longer_none}
use Rattle.lists.proofs.Places.{IsApart-adds}
use Rattle.spds_rules.specs.declared.edge.Edge.{Edge}
use Rattle.cert_work.specs.Roads.{AreUnder}
use Rattle.cert_work.proofs.Filed.{under_next, under_none}
use Rattle.cert_work.proofs.roads.number_edges.Goals as goal

pub loop-edge-init : goal.loop-edge-init
loop-edge-init c = record { apart = c.requires; under = rw c.in_ok-pairs.ensures.items (under_none c.args.nodes.now.keys c.args.edges.now); longer = longer_none _ }

pub loop-edge-preserved : goal.loop-edge-preserved
loop-edge-preserved c =
    let was = c.loop-edge.invariant in
    let adds = c.in_ok-number.ensures.keys in
    let there = slice_get-get_or _ _ _ c.loop-edge-test.true in
    record {
      apart = IsApart-adds _ _ _ was.apart adds;
      under = rw c.in_ok-push.ensures.items (under_next c.loop-edge.nodes.keys c.add.new.self.keys c.args.edges.now c.loop-edge.edge-index _ there c.loop-edge.pairs.items _ was.apart adds c.in_ok-number.ensures.number was.under);
      longer = longer_more _ _ _ was.longer (longer_adds _ _ _ adds);
    }

pub returns-clause-under : goal.returns-clause-under
returns-clause-under c =
    let all = take_all c.loop-edge.edge-index c.args.edges.now (omega arith) in
    subst (λ (es : List Edge). AreUnder c.loop-edge.nodes.keys es c.loop-edge.pairs.items) all c.loop-edge.invariant.under

use Rattle.std.proofs.Common.{get_or}
use Rattle.std.proofs.lemmas.Option.{slice_get-get_or}
use Rattle.cert_rows.proofs.Arcs.{arcs_all, arcs_next, arcs_none, no_arc}
use Rattle.cert_rows.proofs.graph.ArcsWaysU32.steps.Goals as goal

pub loop-arc-init : goal.loop-arc-init
loop-arc-init c = arcs_none c.args.self.now.arcs.now c.args.from c.new-steps.result.items c.new-steps.ensures.items

pub loop-arc-preserved : goal.loop-arc-preserved
loop-arc-preserved c =
    let arcs = c.args.self.now.arcs.now in
    let i = c.loop-arc.arc-index in
    arcs_next arcs i (get_or arcs i no_arc) (slice_get-get_or arcs i no_arc c.loop-arc-test.true) c.args.from c.loop-arc.steps.items c.push_step.new.steps.items c.in_ok-push_step.ensures
    c.loop-arc.invariant

pub returns : goal.returns
returns c = arcs_all c.args.self.now.arcs.now c.loop-arc.arc-index c.args.from c.loop-arc.steps.items c.loop-arc-test.false c.loop-arc.invariant

use Rattle.std.proofs.Common.{get_or}
use Rattle.std.proofs.lemmas.Option.{slice_get-get_or}
use Rattle.cert_replay.proofs.Steps.{no_edge, no_steps, steps_all, steps_more}
use Rattle.cert_replay.proofs.edges.steps_along.Goals as goal

pub loop-edge-init : goal.loop-edge-init
loop-edge-init c = λ s. rw c.new-steps.ensures (no_steps c.args.edges.now s)

pub loop-edge-preserved : goal.loop-edge-preserved
loop-edge-preserved c =
    let edges = c.args.edges.now in
    let i = c.loop-edge.edge-index in
    steps_more edges i (get_or edges i no_edge) c.loop-edge.steps.keys c.add_edge.new.steps.keys (slice_get-get_or edges i no_edge c.loop-edge-test.true) c.loop-edge.invariant
    c.in_ok-add_edge.ensures

pub returns : goal.returns
returns c = steps_all c.args.edges.now c.loop-edge.edge-index c.loop-edge.steps.keys c.loop-edge-test.false c.loop-edge.invariant

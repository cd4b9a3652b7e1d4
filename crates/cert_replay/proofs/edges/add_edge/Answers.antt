use Rattle.cert_replay.proofs.Steps.{steps_added}
use Rattle.cert_replay.proofs.edges.add_edge.Goals as goal

pub returns : goal.returns
returns c =
    steps_added c.args.edge c.args.steps.now.keys c.add_step.new.steps.keys c.add_step-2.new.steps.keys c.add_step-3.new.steps.keys c.add_step-4.new.steps.keys c.in_ok-add_step.ensures
    c.in_ok-add_step-2.ensures c.in_ok-add_step-3.ensures c.in_ok-add_step-4.ensures

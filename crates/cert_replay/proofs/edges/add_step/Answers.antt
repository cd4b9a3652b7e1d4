use Rattle.cert_replay.proofs.From.{fails}
use Rattle.cert_replay.proofs.Steps.{step_added, step_left}
use Rattle.cert_replay.proofs.edges.add_step.Goals as goal

pub returns-then-not-goes : goal.returns-then-not-goes
returns-then-not-goes c = step_left c.args.edge c.args.way c.args.steps.now.keys (fails _ _ c.goes.ensures c.if-not-goes.true)

pub returns : goal.returns
returns c = step_added c.args.edge c.args.way c.args.steps.now.keys c.add.new.self.keys (c.goes.ensures.0 c.if-not-goes.false) c.in_ok-add.ensures.keys

use Rattle.std.proofs.Common.{◌-◌, ap}
use Rattle.std.proofs.lemmas.Result.{on_ok_weaker}
use Rattle.run_report.proofs.Ending.{running_lines}
use Rattle.run_report.proofs.ends.push_running.Goals as goal

pub returns : goal.returns
returns c = on_ok_weaker c.push_locals.result
    (λ locals. running_lines c.args.linked.now c.args.machine.now.state (c.frames-top.result - 1) _ _ _ _ c.requires.tellable c.requires.running
    (ap (λ n. n - 1) c.frames-top.ensures) c.in_ok-push_line.ensures c.in_ok-push_at.ensures locals)
    c.push_locals.ensures

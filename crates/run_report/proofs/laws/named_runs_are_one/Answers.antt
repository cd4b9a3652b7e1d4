use Rattle.run_report.proofs.OneRun.{named_one, named_run, runs_named}
use Rattle.run_report.proofs.laws.named_runs_are_one.Goals as goal

pub returns : goal.returns
returns c = record { one = named_one; run = named_run; named = runs_named }

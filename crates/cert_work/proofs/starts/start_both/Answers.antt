use Rattle.cert_rules.specs.declared.line.Side.TheVariants.{Field, Call}
use Rattle.cert_work.proofs.Growing.{added_more, there_more}
use Rattle.cert_work.proofs.starts.start_both.Goals as goal

pub returns-clause-added : goal.returns-clause-added
returns-clause-added c = added_more c.args.view.now.linked.now c.args.view.now.target c.in_ok-start_line.ensures.added c.in_ok-start_line-2.ensures.added

pub returns-clause-there : goal.returns-clause-there
returns-clause-there c = elim [
  | Field ↦ there_more c.args.view.now.linked.now c.args.view.now.target c.in_ok-start_line-2.ensures.added _ _ c.in_ok-start_line.ensures.there
  | Call ↦ c.in_ok-start_line-2.ensures.there
]

use Rattle.query_core.proofs.Refused.{if_ok}
use Rattle.spds_rules.specs.Demand.{about}
use Rattle.refined_query.proofs.answered.sites_over.Goals as goal

pub answer_sites-requires-clause-demanded : goal.answer_sites-requires-clause-demanded
answer_sites-requires-clause-demanded g c = (c.args.linked.now, c.requires.demanded)

pub returns : goal.returns
returns g c = if_ok c.answer_sites.result _ _ c.answer_sites.ensures
    (λ sites are. are c.args.linked.now c.requires.demanded (c.in_ok-solved.ensures (about c.args.node) c.requires.demanded))

use Rattle.spds_rules.specs.Demand.{about}
use Rattle.explain_text.proofs.explaining.shown.Goals as goal

pub answer_sites-requires-clause-demanded : goal.answer_sites-requires-clause-demanded
answer_sites-requires-clause-demanded g c = (c.args.linked.now, c.requires.demand)

pub returns-clause-answered : goal.returns-clause-answered
returns-clause-answered g c =
    c.in_ok-sites.ensures c.args.linked.now c.requires.demand (c.in_ok-solved.ensures (about c.args.target) c.requires.demand)

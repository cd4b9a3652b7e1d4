use Rattle.link_classes.specs.Seen.{seen_method}
use Rattle.link_faults.proofs.Steps.{without_body}
use Rattle.link_faults.proofs.examining.examine.Goals as goal

pub returns-in-None-clause-examined : goal.returns-in-None-clause-examined
returns-in-None-clause-examined c = without_body c.args.targets.now.world (seen_method c.args.method.now) c.nothing.result c.in-None.is c.nothing.ensures

use Rattle.link_rules.proofs.OneWorld.{not_both, world_one}
use Rattle.link_rules.proofs.Order.{first_one}
use Rattle.link_rules.proofs.Runs.{order_one}
use Rattle.link_rules.proofs.laws.linking_is_determined.Goals as goal

pub returns-clause-world : goal.returns-clause-world
returns-clause-world c = world_one

pub returns-clause-targets : goal.returns-clause-targets
returns-clause-targets c = order_one

pub returns-clause-first : goal.returns-clause-first
returns-clause-first c = first_one

pub returns-clause-one_answer : goal.returns-clause-one_answer
returns-clause-one_answer c = not_both

use Rattle.spds_laws.proofs.Found.{closed_holds, found_met}
use Rattle.spds_laws.proofs.laws.any_order_finds_the_meets.Goals as goal

pub returns-clause-found : goal.returns-clause-found
returns-clause-found c = found_met

pub returns-clause-all : goal.returns-clause-all
returns-clause-all c = closed_holds

use Rattle.std.proofs.Common.{arith}
use Rattle.query_core.specs.Sought.{asked_of}
use Rattle.query_core.proofs.Posed.{few_sites}
use Rattle.query_core.proofs.finding.found_over.Goals as goal

pub solved_sites-requires-clause-few : goal.solved_sites-requires-clause-few
solved_sites-requires-clause-few g c =
    omega (arith, few_sites c.args.linked.now (asked_of c.args.first c.args.second) c.args.demand.now c.requires.demand, c.requires.few)

use Rattle.weight_laws.proofs.Unions.{unions_at}
use Rattle.weight_laws.proofs.rel.unions.Goals as goal

pub returns : goal.returns
returns c = record { each = unions_at c.args.relation.now c.args.first }

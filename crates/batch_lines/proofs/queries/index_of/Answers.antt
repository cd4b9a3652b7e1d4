use Rattle.std.proofs.Common.{}
use Rattle.batch_lines.proofs.Spelled.{number_text}
use Rattle.batch_lines.proofs.queries.index_of.Goals as goal

pub returns-in-Err-clause-only : goal.returns-in-Err-clause-only
returns-in-Err-clause-only c = λ n small e. absurd (c.in-Err.ensures.cases.0 (number_text c.args.word.now n small e))

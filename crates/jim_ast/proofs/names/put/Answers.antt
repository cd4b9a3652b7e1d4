use Rattle.std.proofs.Common.{arith}
use Rattle.std.proofs.lemmas.Map.Text.{text_keys}
use Rattle.jim_ast.proofs.names.put.Goals as goal

pub returns-clause-put : goal.returns-clause-put
returns-clause-put c = grind (arith, text_keys)

use Rattle.link_program.proofs.Found.{head_of}
use Rattle.link_program.proofs.heads.Heads.head.Goals as goal

pub returns : goal.returns
returns c = λ bodies m are there.
    head_of c.args.self.now.heads.items bodies are.as_many c.args.method m there c.index.result.now c.index.ensures are.few_locals

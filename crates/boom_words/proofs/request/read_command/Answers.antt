use Rattle.boom_words.proofs.request.read_command.Goals as goal

pub returns-clause-some : goal.returns-clause-some
returns-clause-some c = c.in_ok-query.ensures.some c.args.entry.now

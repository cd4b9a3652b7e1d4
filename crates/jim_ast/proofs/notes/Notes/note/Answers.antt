use Rattle.std.proofs.Common.{◌+◌}
use Rattle.jim_ast.proofs.Filed.{IsNoted-set}
use Rattle.jim_ast.proofs.notes.Notes.note.Goals as goal

pub returns-clause-kept : goal.returns-clause-kept
returns-clause-kept c = λ h i noted. IsNoted-set c.args.self.now.slots.items c.in-Some.at (c.args.number + 1) h i c.in-Some.ensures.1 noted

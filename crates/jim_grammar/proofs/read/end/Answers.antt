use Rattle.std.proofs.Common.{IsTrue, ◌∙◌, sym}
use Rattle.jim_grammar.specs.Stacks.{stacks}
use Rattle.jim_grammar.proofs.Ends.{length-stacks, least_end}
use Rattle.jim_grammar.proofs.read.end.Goals as goal

pub returns-clause-refused : goal.returns-clause-refused
returns-clause-refused c = least_end c.args.signs.now (stacks c.args.last.now) (λ z. c.requires.some (sym (length-stacks c.args.last.now) ∙ z)) c.requires.so_far (λ k. let e : IsTrue c.in_ok-takes_nothing.field-0 = c.in_ok-takes_nothing.ensures.1 k in cc (e, c.if-branch.false))

use Rattle.std.proofs.Common.{ap, ◌∙◌, arith, Vec, Global}
use Rattle.jim_grammar.specs.declared.machine.Entry.{Entry}
use Rattle.jim_grammar.proofs.Runs.{advances_more}
use Rattle.jim_grammar.proofs.Ends.{stacks_more}
use Rattle.jim_grammar.proofs.machine.advance.Goals as goal

pub loop-stack-preserved : goal.loop-stack-preserved
loop-stack-preserved c =
    let q = c.in_ok-left.ensures ∙ c.deref.ensures.value ∙ ap (λ (z : Vec Entry Global). z.items) c.stack-item.is in
    rw (stacks_more c.args.old.now c.loop-stack.stack-index c.stack-item.result (omega arith)) (advances_more c.args.lead _ _ _ _ c.loop-stack.invariant (rw q at c.in_ok-follow.ensures))

use Rattle.std.proofs.Common.{◌≡◌, length, sym, ◌∙◌, arith}
use Rattle.jim_grammar.specs.Stacks.{stacks}
use Rattle.jim_grammar.proofs.Ends.{length-stacks, least_at, far_more, no_stack, not_accepted}
use Rattle.jim_grammar.proofs.read.least_refused_from.Goals as goal

pub returns-then-len-eq0-clause-refused : goal.returns-then-len-eq0-clause-refused
returns-then-len-eq0-clause-refused c =
    let none : length c.in_ok-next.next.items ≡ 0 = omega (arith, c.in_ok-next.next.ok.0, c.len.ensures, c.if-len-eq0.true) in
    least_at c.args.signs.now c.loop-at.at _ (stacks c.loop-at.stacks.items) (omega arith) (λ z. c.loop-at.invariant.some (sym (length-stacks c.loop-at.stacks.items) ∙ z)) c.loop-at.invariant.so_far (rw (no_stack c.in_ok-next.next.items none) at (rw c.deref.ensures.value at c.in_ok-next.ensures))

pub returns-then-len-eq0-clause-accepted : goal.returns-then-len-eq0-clause-accepted
returns-then-len-eq0-clause-accepted c = not_accepted c.args.signs.now c.loop-at.at c.loop-at.at (returns-then-len-eq0-clause-refused c)

pub loop-at-preserved : goal.loop-at-preserved
loop-at-preserved c = record {
  some = λ z. omega (arith, c.in_ok-next.next.ok.0, c.len.ensures, c.if-len-eq0.false, z);
  so_far = far_more c.args.signs.now c.loop-at.at _ _ _ (omega arith) c.loop-at.invariant.so_far (rw c.deref.ensures.value at c.in_ok-next.ensures);
}

use Rattle.std.proofs.Common.{[], arith, refl}
use Rattle.jim_step.proofs.Nine.{raised_of}
use Rattle.jim_step.proofs.classes.classes_of.Goals as goal

pub named-requires-2 : goal.named-requires-2
named-requires-2 c = c.tell_form.ensures.nine 1 [] (omega arith)

pub named-requires-3 : goal.named-requires-3
named-requires-3 c = c.tell_form.ensures.nine 2 [] (omega arith)

pub named-requires-4 : goal.named-requires-4
named-requires-4 c = c.tell_form.ensures.nine 3 [] (omega arith)

pub named-requires-5 : goal.named-requires-5
named-requires-5 c = c.tell_form.ensures.nine 4 [] (omega arith)

pub named-requires-6 : goal.named-requires-6
named-requires-6 c = c.tell_form.ensures.nine 5 [] (omega arith)

pub named-requires-7 : goal.named-requires-7
named-requires-7 c = c.tell_form.ensures.nine 6 [] (omega arith)

pub named-requires-8 : goal.named-requires-8
named-requires-8 c = c.tell_form.ensures.nine 7 [] (omega arith)

pub named-requires-9 : goal.named-requires-9
named-requires-9 c = c.tell_form.ensures.nine 8 [] (omega arith)

pub returns : goal.returns
returns c = record {
  object = c.named.ensures;
  string = c.named-2.ensures;
  class = c.named-3.ensures;
  six = refl;
  exceptions = raised_of c.args.linked.now c.named-4.result c.named-5.result c.named-6.result c.named-7.result c.named-8.result c.named-9.result
      c.named-4.ensures c.named-5.ensures c.named-6.ensures c.named-7.ensures c.named-8.ensures c.named-9.ensures;
}

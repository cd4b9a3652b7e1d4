use Rattle.std.proofs.Common.{IsTrue}
use Rattle.jim_grammar.proofs.Ends.{none_empty, one_empty}
use Rattle.jim_grammar.proofs.machine.all_empty.Goals as goal

pub returns-then-not-empty : goal.returns-then-not-empty
returns-then-not-empty c = ((λ x. cc x), λ r. absurd (none_empty _ _ c.in-Some.entry c.in-Some.ensures.items (λ n. let e : IsTrue c.in_ok-empty.empty = c.in_ok-empty.ensures.empty.1 n in cc (e, c.if-not-empty.true)) (c.loop-entry.invariant.1 r)))

pub loop-entry-preserved : goal.loop-entry-preserved
loop-entry-preserved c =
    let o = one_empty _ _ _ c.in-Some.entry _ c.in-Some.ensures.items (c.in_ok-empty.ensures.empty.0 c.if-not-empty.false) c.in_ok-empty.ensures.same ((λ r. r), λ r. r) in
    ((λ r. c.loop-entry.invariant.0 (o.0 r)), λ r. o.1 (c.loop-entry.invariant.1 r))

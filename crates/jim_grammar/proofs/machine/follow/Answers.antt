use Rattle.std.proofs.Common.{IsTrue}
use Rattle.jim_grammar.proofs.Ends.{follow_full, follow_on}
use Rattle.jim_grammar.proofs.machine.follow.Goals as goal

pub returns-then-not-empty : goal.returns-then-not-empty
returns-then-not-empty c = c.loop-entry.invariant _ (follow_full c.args.lead _ _ c.in-Some.entry _ _ c.in-Some.ensures.items (λ n. let e : IsTrue c.in_ok-empty.empty = c.in_ok-empty.ensures.empty.1 n in cc (e, c.if-not-empty.true)) c.in_ok-empty.ensures.adds)

pub loop-entry-preserved : goal.loop-entry-preserved
loop-entry-preserved c = λ new f. c.loop-entry.invariant new (follow_on c.args.lead _ _ _ c.in-Some.entry _ _ new c.in-Some.ensures.items (c.in_ok-empty.ensures.empty.0 c.if-not-empty.false) c.in_ok-empty.ensures.adds c.in_ok-empty.ensures.same f)

use Rattle.std.proofs.Common.{List, arith, subst, sym}
use Rattle.std.proofs.lemmas.List.{take_all}
use Rattle.std.proofs.lemmas.Option.{slice_get-get_or}
use Rattle.lists.specs.Lists.{Has}
use Rattle.spds_rules.specs.declared.node.Node.{Node}
use Rattle.cert_work.specs.Wants.{IsWanted}
use Rattle.cert_work.proofs.Growing.{each_next}
use Rattle.cert_work.proofs.roads.View.is_wanted_in.Goals as goal

pub loop-node-preserved : goal.loop-node-preserved
loop-node-preserved c =
    each_next (λ (n : Node). IsWanted c.args.self.now.wants.now c.args.object n → ⊥) c.starts-nodes.result.now c.loop-node.node-index _
    (slice_get-get_or _ _ _ c.loop-node-test.true) c.loop-node.invariant (λ wanted. let t = c.has.ensures.1 wanted in cc (t, c.if-has.false))

pub returns-clause-no : goal.returns-clause-no
returns-clause-no c = λ n start wanted.
    let all = take_all c.loop-node.node-index c.starts-nodes.result.now (omega arith) in
    absurd (c.loop-node.invariant n (subst (λ (xs : List Node). Has xs n) (sym all) ((c.starts-nodes.ensures n).1 start)) wanted)

use Rattle.std.proofs.Common.{List, arith, subst, sym}
use Rattle.std.proofs.lemmas.List.{take_all}
use Rattle.std.proofs.lemmas.Option.{slice_get-get_or}
use Rattle.lists.proofs.Grown.{has_longer, longer_adds, longer_more, longer_none}
use Rattle.lists.proofs.Places.{Has-adds_itself}
use Rattle.lists.specs.Lists.{Has}
use Rattle.spds_rules.specs.declared.node.Node.{Node}
use Rattle.cert_work.proofs.Growing.{each_next}
use Rattle.cert_trace.specs.Ahead.{IsFound}
use Rattle.cert_trace.proofs.ahead.add_nodes.Goals as goal

pub loop-node-init : goal.loop-node-init
loop-node-init c = record { longer = longer_none _; all = λ n has. let h = has.1 in cc }

pub loop-node-preserved : goal.loop-node-preserved
loop-node-preserved c =
    let was = c.loop-node.invariant in
    let keys = c.in_ok-add.ensures.keys in
    let longer = longer_adds _ _ _ keys in
    record {
      longer = longer_more _ _ _ was.longer longer;
      all = each_next (IsFound c.add.new.self.keys c.args.field) c.args.nodes.now c.loop-node.node-index _ (slice_get-get_or _ _ _ c.loop-node-test.true)
          (λ n has. has_longer _ _ longer (record { field = c.args.field; node = n }) (was.all n has)) (Has-adds_itself _ _ _ keys);
    }

pub returns-clause-all : goal.returns-clause-all
returns-clause-all c =
    let all = take_all c.loop-node.node-index c.args.nodes.now (omega arith) in
    λ n has. c.loop-node.invariant.all n (subst (λ (xs : List Node). Has xs n) (sym all) has)

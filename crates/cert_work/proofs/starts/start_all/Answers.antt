use Rattle.std.proofs.Common.{List, arith, subst, sym}
use Rattle.std.proofs.lemmas.List.{take_all}
use Rattle.std.proofs.lemmas.Option.{slice_get-get_or}
use Rattle.lists.specs.Lists.{Has}
use Rattle.link_sites.specs.declared.site.Site.{Site}
use Rattle.spds_rules.specs.declared.node.Node.{Node}
use Rattle.cert_rules.specs.declared.fact.Entry.TheVariants.{Base}
use Rattle.cert_rules.specs.declared.fact.Fact.TheVariants.{At}
use Rattle.cert_rules.specs.declared.line.Side.{Side}
use Rattle.cert_lines.specs.Noted.{IsThere}
use Rattle.cert_work.specs.Added.{AreAdded}
use Rattle.cert_work.specs.Roads.{StartOf}
use Rattle.cert_work.specs.Wants.{IsWanted}
use Rattle.cert_work.proofs.Growing.{added_more, each_next, there_more}
use Rattle.cert_work.proofs.starts.start_all.Goals as goal

pub loop-node-init : goal.loop-node-init
loop-node-init c = record { added = AreAdded.none; there = λ n has. let h = has.1 in cc }

pub start-requires : goal.start-requires
start-requires c = c.requires _ (c.loop-node.node-index, slice_get-get_or _ _ _ c.loop-node-test.true)

pub loop-node-preserved : goal.loop-node-preserved
loop-node-preserved c =
    let was = c.loop-node.invariant in
    let now = c.in_ok-start.ensures in
    record {
      added = added_more c.args.view.now.linked.now c.args.view.now.target was.added now.added;
      there = each_next (λ (n : Node). (side : Side) (o : Site) → StartOf c.args.view.now o n → IsWanted c.args.view.now.wants.now o n → IsThere c.start.new.written (At side o Base n) 0) c.args.nodes.now
          c.loop-node.node-index _ (slice_get-get_or _ _ _ c.loop-node-test.true)
          (λ n has side o is wanted. there_more c.args.view.now.linked.now c.args.view.now.target now.added _ _ (was.there n has side o is wanted)) now.there;
    }

pub returns-clause-there : goal.returns-clause-there
returns-clause-there c =
    let all = take_all c.loop-node.node-index c.args.nodes.now (omega arith) in
    λ side o n has is wanted. c.loop-node.invariant.there n (subst (λ (xs : List Node). Has xs n) (sym all) has) side o is wanted

use Rattle.std.proofs.Common.{◌+◌, List, arith, subst, sym}
use Rattle.std.proofs.lemmas.List.{take_all}
use Rattle.std.proofs.lemmas.Option.{slice_get-get_or}
use Rattle.lists.specs.Lists.{Has}
use Rattle.spds_rules.specs.declared.edge.Edge.{Edge}
use Rattle.cert_rules.specs.declared.fact.Fact.TheVariants.{At}
use Rattle.cert_rules.specs.Given.{Takes}
use Rattle.cert_lines.specs.Noted.{IsThere}
use Rattle.cert_work.specs.Rules.{one_more}
use Rattle.cert_work.specs.Added.{AreAdded}
use Rattle.cert_work.proofs.Growing.{added_more, below_more, each_next, first, held_more, second, there_more}
use Rattle.cert_work.proofs.Working.{popped_of}
use Rattle.cert_work.proofs.popping.pop_all.Goals as goal

pub loop-edge-init : goal.loop-edge-init
loop-edge-init c = record {
  added = AreAdded.none;
  there = λ y has. let h = has.1 in cc;
}

pub pop_if-requires-clause-held : goal.pop_if-requires-clause-held
pop_if-requires-clause-held c = held_more c.args.view.now.linked.now c.args.view.now.target c.loop-edge.invariant.added c.args.held.now c.requires.held

pub pop_if-requires-clause-below : goal.pop_if-requires-clause-below
pop_if-requires-clause-below c = below_more c.args.view.now.linked.now c.args.view.now.target c.loop-edge.invariant.added c.args.held.now c.args.below.now c.requires.below

pub pop_if-requires-clause-edge : goal.pop_if-requires-clause-edge
pop_if-requires-clause-edge c = second ((c.requires.edges _).0 (c.loop-edge.edge-index, slice_get-get_or _ _ _ c.loop-edge-test.true))

pub pop_if-requires-clause-from : goal.pop_if-requires-clause-from
pop_if-requires-clause-from c = first ((c.requires.edges _).0 (c.loop-edge.edge-index, slice_get-get_or _ _ _ c.loop-edge-test.true))

pub loop-edge-preserved : goal.loop-edge-preserved
loop-edge-preserved c =
    let was = c.loop-edge.invariant in
    let now = c.in_ok-pop_if.ensures in
    record {
      added = added_more c.args.view.now.linked.now c.args.view.now.target was.added now.added;
      there = each_next (λ (y : Edge). Takes c.args.held.now.side c.args.held.now.entry y.kind → IsThere c.pop_if.new.written (At c.args.held.now.side c.args.held.now.site c.args.below.now.entry y.to) (one_more c.args.held.now.side (c.args.held.now.length + c.args.below.now.length))) c.args.edges.now c.loop-edge.edge-index _ (slice_get-get_or _ _ _ c.loop-edge-test.true)
          (λ y has. λ takes. there_more c.args.view.now.linked.now c.args.view.now.target now.added _ _ (was.there y has takes)) now.there;
    }

pub returns-clause-there : goal.returns-clause-there
returns-clause-there c =
    let all = take_all c.loop-edge.edge-index c.args.edges.now (omega arith) in
    let added = c.loop-edge.invariant.added in
    λ e along. popped_of c.loop-edge.written c.args.held.now (held_more c.args.view.now.linked.now c.args.view.now.target added c.args.held.now c.requires.held) c.args.below.now
    (below_more c.args.view.now.linked.now c.args.view.now.target added c.args.held.now c.args.below.now c.requires.below) e
    (λ from. c.loop-edge.invariant.there e (subst (λ (xs : List Edge). Has xs e) (sym all) ((c.requires.edges e).1 (from, along))))

use Rattle.std.proofs.Common.{List, arith, subst, sym}
use Rattle.std.proofs.lemmas.List.{take_all}
use Rattle.std.proofs.lemmas.Option.{slice_get-get_or}
use Rattle.lists.specs.Lists.{Has}
use Rattle.spds_rules.specs.declared.edge.Edge.{Edge}
use Rattle.cert_work.specs.Rules.{GoesOn}
use Rattle.cert_work.specs.Added.{AreAdded}
use Rattle.cert_work.proofs.Growing.{added_more, each_next, first, goes_on_more, held_more, second}
use Rattle.cert_work.proofs.Working.{along_of}
use Rattle.cert_work.proofs.along.along_all.Goals as goal

pub loop-edge-init : goal.loop-edge-init
loop-edge-init c = record {
  added = AreAdded.none;
  there = λ y has. let h = has.1 in cc;
}

pub along-requires-clause-held : goal.along-requires-clause-held
along-requires-clause-held c = held_more c.args.view.now.linked.now c.args.view.now.target c.loop-edge.invariant.added c.args.held.now c.requires.held

pub along-requires-clause-edge : goal.along-requires-clause-edge
along-requires-clause-edge c = second ((c.requires.edges _).0 (c.loop-edge.edge-index, slice_get-get_or _ _ _ c.loop-edge-test.true))

pub along-requires-clause-from : goal.along-requires-clause-from
along-requires-clause-from c = first ((c.requires.edges _).0 (c.loop-edge.edge-index, slice_get-get_or _ _ _ c.loop-edge-test.true))

pub loop-edge-preserved : goal.loop-edge-preserved
loop-edge-preserved c =
    let was = c.loop-edge.invariant in
    let now = c.in_ok-along.ensures in
    record {
      added = added_more c.args.view.now.linked.now c.args.view.now.target was.added now.added;
      there = each_next (λ (y : Edge). GoesOn c.along.new.written c.args.held.now.length c.args.held.now.side c.args.held.now.site c.args.held.now.entry y.kind y.to) c.args.edges.now c.loop-edge.edge-index _ (slice_get-get_or _ _ _ c.loop-edge-test.true)
          (λ y has. goes_on_more c.args.view.now.linked.now c.args.view.now.target now.added c.args.held.now.length c.args.held.now.side c.args.held.now.site c.args.held.now.entry y.kind y.to (was.there y has)) now.there;
    }

pub returns-clause-there : goal.returns-clause-there
returns-clause-there c =
    let all = take_all c.loop-edge.edge-index c.args.edges.now (omega arith) in
    λ e along. along_of c.loop-edge.written c.args.held.now (held_more c.args.view.now.linked.now c.args.view.now.target c.loop-edge.invariant.added c.args.held.now c.requires.held) e
    (λ from. c.loop-edge.invariant.there e (subst (λ (xs : List Edge). Has xs e) (sym all) ((c.requires.edges e).1 (from, along))))
